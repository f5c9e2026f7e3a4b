use Rattle.std.proofs.Common.{◌≡◌, fold}
use Rattle.bpaf_items.specs.Listing.Keys.{document_input}
use Rattle.bpaf_items.proofs.meta_help.key.feed_document.Given as goal

abbrev pub invariant-loop-part : goal.invariant-loop-part
invariant-loop-part g l = fold g.H.Hasher.write l.state (document_input l.part-iterator) ≡ fold g.H.Hasher.write l.fn.state (document_input l.document)
