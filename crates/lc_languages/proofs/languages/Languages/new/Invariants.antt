use Rattle.std.proofs.Common.{◌≡◌, map, length, ℕ, List, suc}
use Rattle.std.specs.Option.{option_map_or, option_or}
use Rattle.lc_glob.specs.Pieces.{pieces_left}
use Rattle.lc_rules.specs.Bytes.{line_feed}
use Rattle.lc_languages.specs.Languages.{ending, entries_of, entry_of, language_in, listed, whole}
use Rattle.lc_languages.proofs.languages.Languages.new.Given as goal

abbrev pub invariant-lines : goal.invariant-lines
invariant-lines l =
    ((text : List ℕ) → option_or (listed (map entry_of (pieces_left line_feed l.left)) (whole text)) (language_in l.names text)
    ≡ listed (entries_of l.list) (whole text))
    × ((text : List ℕ) → option_or (listed (map entry_of (pieces_left line_feed l.left)) (ending text)) (language_in l.ends text)
    ≡ listed (entries_of l.list) (ending text))

abbrev pub decreases-lines : goal.decreases-lines
decreases-lines l = option_map_or (λ rest. suc (length rest.now)) l.left 0
