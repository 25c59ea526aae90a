-- The words by which reports name errors.
use Rattle.std.specs.Prelude.{ℕ, List, Option, Some, None, codes}
use Rattle.lc_level.specs.declared.fault_word.FaultWord.{FaultWord, TheVariants.{Read, Name, Twice, Many, Long, Endless, Absent}}
use Rattle.lc_tree.specs.declared.read_fault.ReadFault.{ReadFault}
use Rattle.lc_tree.specs.declared.read_fault.ReadFault.TheVariants as fault

abbrev pub fault_word : FaultWord → List ℕ
fault_word Read = codes "read"
fault_word Name = codes "name"
fault_word Twice = codes "twice"
fault_word Many = codes "many"
fault_word Long = codes "long"
fault_word Endless = codes "endless"
fault_word Absent = codes "absent"

-- the word for an error of a listing; a failed allocation has none
abbrev pub fault_word_of : ReadFault → Option FaultWord
fault_word_of fault.Failed = Some Read
fault_word_of fault.Unnamed = Some Name
fault_word_of fault.BadName = Some Name
fault_word_of fault.Twice = Some Twice
fault_word_of fault.TooMany = Some Many
fault_word_of fault.Memory = None
