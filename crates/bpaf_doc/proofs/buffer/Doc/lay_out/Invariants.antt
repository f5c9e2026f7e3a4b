use Rattle.std.specs.Iterator.Adapters.{enumerate_source, enumerate_count}
use Rattle.bpaf_doc.specs.Console.Steps.Page.{sheet_of}
use Rattle.bpaf_doc.specs.Console.Steps.Text.{whole_page}
use Rattle.bpaf_doc.proofs.lemmas.Console.Pages.{IsPageLeft}
use Rattle.bpaf_doc.proofs.buffer.Doc.lay_out.Given as goal

abbrev pub invariant-loop-index : goal.invariant-loop-index
invariant-loop-index g l =
    IsPageLeft l.full l.self (whole_page l.full l.width l.self) (enumerate_count l.index-iterator) l.pairs l.hidden (enumerate_source l.index-iterator) (sheet_of l.page)
