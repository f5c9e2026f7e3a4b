-- How the trees and infos that items borrow are stored. No promise is about this: the model of a list needs it.
use Rattle.std.specs.Coded.{Coded}
use base.Fml.{ftrue}
use borrow.Follows.Found as found
use Rattle.bpaf_meta.specs.contracts.meta.Meta as meta
use Rattle.bpaf_meta.specs.contracts.meta_help.Info as info
use Rattle.bpaf_meta.specs.declared.meta.Meta.{Meta}
use Rattle.bpaf_meta.specs.declared.meta_help.Info.{Info}

-- by the code of an allocator, whatever a token of its memory is
abbrev pub tree_code : {A : Type 0} → Coded A → Coded (Meta A)
tree_code {A} code = (meta.the_row (found.coded A code) (record { dealloc_token = λ a ty p. ftrue })).coded

abbrev pub info_code : {A : Type 0} → Coded A → Coded (Info A)
info_code {A} code = (info.the_row (found.coded A code) (record { dealloc_token = λ a ty p. ftrue })).coded
