-- How paths and tables are printed and paths are read, by the command line and by which streams are terminals.
use Rattle.std.specs.Prelude.{Bool, true, false}
use Rattle.lc_text.specs.declared.lines.PathEnd.{PathEnd, TheVariants.{LineFeed, Nul}}
use Rattle.lc_paths.specs.declared.style.{PathFormat.PathFormat, PathStyle.{PathStyle, TheVariants.{Escaped, Visible}}}
use Rattle.lc_sheet.specs.declared.table_options.Format.{Format, TheVariants.{Table, Tsv}}

-- how paths are escaped on an output, by whether it is a terminal
abbrev pub style_for : Bool → PathStyle
style_for true = Visible
style_for false = Escaped

-- the format of a table whose format is not named, by whether the output is a terminal
abbrev pub format_for : Bool → Format
format_for true = Table
format_for false = Tsv

-- what ends each path of the input, by whether `--null` is used
abbrev pub end_for : Bool → PathEnd
end_for true = Nul
end_for false = LineFeed

-- how paths of the input end, by whether `--null` is used, and how paths are printed
abbrev pub format_with : Bool → PathStyle → PathFormat
format_with null style = record { end = end_for null; style = style }
