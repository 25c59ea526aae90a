-- Patterns that are stored side by side.
use Rattle.std.specs.Prelude.{ℕ, ◌+◌, ◌≤◌, List, take, drop}
use Rattle.lc_glob.specs.{Patterns.PatternModel, Views.{form_model, token_pattern_model}, declared.token.Token.Token}
use Rattle.lc_glob.specs.declared.pattern_set.{PatternForm.{PatternForm, TheVariants.{Simple, Tokens}}, PatternSpan.PatternSpan}

-- the pattern of a form, and of `len` bytes or tokens of a set from `start` on
abbrev pub pattern_from : List ℕ → List Token → PatternForm → ℕ → ℕ → PatternModel
pattern_from bytes tokens (Simple form) start len = form_model form (take len (drop start bytes))
pattern_from bytes tokens (Tokens scope) start len = token_pattern_model scope (take len (drop start tokens))

-- the pattern of a span
abbrev pub pattern_in : List ℕ → List Token → PatternSpan → PatternModel
pattern_in bytes tokens span = pattern_from bytes tokens span.form span.start span.len

-- a set with this many bytes and tokens has those of a pattern: `len` of them from `start` on
abbrev pub IsThere : ℕ → ℕ → PatternForm → ℕ → ℕ → Type 0
IsThere bytes tokens (Simple form) start len = start + len ≤ bytes
IsThere bytes tokens (Tokens scope) start len = start + len ≤ tokens

abbrev pub IsSpanOf : ℕ → ℕ → PatternSpan → Type 0
IsSpanOf bytes tokens span = IsThere bytes tokens span.form span.start span.len
