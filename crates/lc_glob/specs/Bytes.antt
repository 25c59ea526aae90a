-- The bytes that mean something in a pattern.
use Rattle.std.specs.Prelude.{ℕ}

-- `/`, which cuts patterns and paths into segments
abbrev pub slash : ℕ
slash = 47

-- `\`, which quotes the byte after it
abbrev pub backslash : ℕ
backslash = 92

-- `*`
abbrev pub asterisk : ℕ
asterisk = 42

-- `?`
abbrev pub question_mark : ℕ
question_mark = 63

-- `[`, which opens a bracket
abbrev pub opening : ℕ
opening = 91

-- `]`, which closes it
abbrev pub closing : ℕ
closing = 93

-- `!` and `^`, which negate a bracket
abbrev pub exclamation_mark : ℕ
exclamation_mark = 33

abbrev pub caret : ℕ
caret = 94

-- `-`, which makes a range
abbrev pub hyphen : ℕ
hyphen = 45

-- `:`, which begins and ends a class
abbrev pub colon : ℕ
colon = 58

-- `.`, which alone and twice is no name
abbrev pub dot : ℕ
dot = 46

-- the byte that no path has
abbrev pub nul : ℕ
nul = 0
