-- Which fault an error of a help page is, and one of reading.
use Rattle.bpaf_items.specs.declared.meta_help.error.HelpError.{HelpError}
use Rattle.bpaf_items.specs.declared.meta_help.error.HelpError.TheVariants as error
use Rattle.watched.specs.declared.ReadError.{ReadError}
use Rattle.watched.specs.declared.ReadError.TheVariants as reading
use Rattle.helpdoc_engine.specs.declared.faults.Fault.{Fault}
use Rattle.helpdoc_engine.specs.declared.faults.Fault.TheVariants.{Memory, Misplaced, NotUtf8, Read}

-- each under its own name
abbrev pub fault_of : {A : Type 0} → HelpError A → Fault
fault_of (error.Memory refused) = Memory
fault_of (error.Misplaced item) = Misplaced

abbrev pub fault_of_read : ReadError → Fault
fault_of_read (reading.Failed error) = Read
fault_of_read reading.NotUtf8 = NotUtf8
fault_of_read (reading.Refused error) = Memory
