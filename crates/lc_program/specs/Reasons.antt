-- Why a path could not be read, as lines on standard error say it.
use Rattle.std.specs.Prelude.{ℕ, Bool, true, false, List, [], ◌++◌, Option, Some, None, codes}
use Rattle.lc_text.specs.Visible.{visible_bytes}
use Rattle.lc_program.specs.{Commands.file_count, declared.unread_reason.UnreadReason.UnreadReason}
use Rattle.lc_program.specs.declared.unread_reason.UnreadReason.TheVariants.{Missing, Denied, IsDirectory, IsFile, NotDirectory, Other}

-- the text of a reason, which follows the name
abbrev pub reason_text : UnreadReason → List ℕ
reason_text Missing = codes ": no such file or directory"
reason_text Denied = codes ": permission denied"
reason_text IsDirectory = codes ": is a directory"
reason_text IsFile = codes ": not a directory"
reason_text NotDirectory = codes ": not a directory"
reason_text Other = []

-- the text of a reason, or nothing where the system gives no reason
abbrev pub reason_given : Option UnreadReason → List ℕ
reason_given None = []
reason_given (Some why) = reason_text why

-- the beginning of the line that says that this path could not be read, for this reason
abbrev pub unread_for : List ℕ → Option UnreadReason → List ℕ
unread_for path why = codes "lc: cannot read " ++ visible_bytes path ++ reason_given why

-- the line that says that the directory of an explanation, or a report, could not be read
abbrev pub unexplained_line : List ℕ → Option UnreadReason → List ℕ
unexplained_line directory why = unread_for directory why ++ codes "\n"

-- the line that says why the directory of an explanation could not be read; nothing where the system gives no reason
abbrev pub why_line : List ℕ → Option UnreadReason → List ℕ
why_line directory None = []
why_line directory (Some why) = unexplained_line directory (Some why)

-- a directory can't be listed for this reason: it is none
abbrev pub is_no_directory : UnreadReason → Bool
is_no_directory Missing = true
is_no_directory Denied = false
is_no_directory IsDirectory = false
is_no_directory IsFile = true
is_no_directory NotDirectory = true
is_no_directory Other = false

-- the words that show how to count a file that was named in place of a directory; nothing for any other reason
abbrev pub count_instead : List ℕ → Option UnreadReason → List ℕ
count_instead path (Some IsFile) = file_count path
count_instead path why = []

-- the line that says that the directory of a count could not be read
abbrev pub uncounted_line : List ℕ → Option UnreadReason → List ℕ
uncounted_line directory why = unread_for directory why ++ count_instead directory why ++ codes "\n"
