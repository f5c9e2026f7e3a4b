use Rattle.bpaf_doc.proofs.lemmas.Console.Words.{arith, IsUtf8-string_bytes, sheet_of}
use Rattle.bpaf_doc.proofs.lemmas.Console.Blanks.{blanks_pass}
use Rattle.bpaf_doc.proofs.console.page.Page.pass_blanks.Goals as goal

pub blanks-preserved : goal.blanks-preserved
blanks-preserved g c = grind (arith, blanks_pass (sheet_of c.args.self.now) c.requires (IsUtf8-string_bytes c.args.self.now.out))
