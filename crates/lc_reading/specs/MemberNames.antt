-- The names of members, as they are printed.
use Rattle.std.specs.Prelude.{ℕ, List, codes}
use Rattle.lc_reading.specs.declared.member_name.MemberName.{MemberName}
use Rattle.lc_reading.specs.declared.member_name.MemberName.TheVariants.{Rows, Others, Total, Text, Binary, Directories, Entries, Files}
use Rattle.lc_reading.specs.declared.member_name.MemberName.TheVariants.{Left, Faults, Path, PathBytes, Ext, ExtBytes, Eol, Lines, Blank}
use Rattle.lc_reading.specs.declared.member_name.MemberName.TheVariants.{Bytes, Kind, Reason, File, FileBytes, Line, Attribute}
use Rattle.lc_reading.specs.declared.member_name.MemberName.TheVariants.{AttributeBytes, Word}

abbrev pub member_name : MemberName → List ℕ
member_name Rows = codes "rows"
member_name Others = codes "others"
member_name Total = codes "total"
member_name Text = codes "text"
member_name Binary = codes "binary"
member_name Directories = codes "directories"
member_name Entries = codes "entries"
member_name Files = codes "files"
member_name Left = codes "left"
member_name Faults = codes "faults"
member_name Path = codes "path"
member_name PathBytes = codes "path_bytes"
member_name Ext = codes "ext"
member_name ExtBytes = codes "ext_bytes"
member_name Eol = codes "eol"
member_name Lines = codes "lines"
member_name Blank = codes "blank"
member_name Bytes = codes "bytes"
member_name Kind = codes "kind"
member_name Reason = codes "reason"
member_name File = codes "file"
member_name FileBytes = codes "file_bytes"
member_name Line = codes "line"
member_name Attribute = codes "attribute"
member_name AttributeBytes = codes "attribute_bytes"
member_name Word = codes "word"
