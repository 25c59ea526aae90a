-- The tokens of the members of a JSON object, in order.
use Rattle.std.specs.{Prelude.{List, ◌∷◌}, List.flat_map}
use Rattle.json.specs.{Token.{Token, key}, Tree.json_tokens}
use Rattle.lc_formats.specs.JsonText.{Member}

abbrev pub member_tokens : Member → List Token
member_tokens m = key m.0 ∷ json_tokens m.1

abbrev pub members_tokens_of : List Member → List Token
members_tokens_of ms = flat_map member_tokens ms
