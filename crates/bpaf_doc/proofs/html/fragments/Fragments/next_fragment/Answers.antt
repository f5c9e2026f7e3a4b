-- A chunk that is shown is the first of what is left of its text.
use Rattle.std.proofs.Common.{sym, ◌∙◌, inl, inr}
use Rattle.bpaf_doc.specs.Splitter.View.{chunk_of}
use Rattle.bpaf_doc.proofs.lemmas.Html.Fragments.Walking.{left_more, IsVisible}
use Rattle.bpaf_doc.proofs.html.fragments.Fragments.next_fragment.Goals as goal
use Rattle.bpaf_doc.proofs.html.fragments.Fragments.next_fragment.Goals.{else-not-self-via-then-not-self+else-is_paragraph, else-not-self-via-else-not-self}

pub returns-else-not-self : goal.returns-else-not-self
returns-else-not-self c =
    let visible : IsVisible c.self.inside.full (chunk_of c.in-Some.chunk) = elim c.else-not-self.branch [
      | else-not-self-via-then-not-self+else-is_paragraph w ↦ inr (sym w.is_paragraph.ensures ∙ w.if-is_paragraph.false)
      | else-not-self-via-else-not-self w ↦ inl w.if-not-self.false
    ] in
    record {
      steps = left_more c.args.self.now c.self.inside.full c.self.inside.in_text c.self.inside.style (chunk_of c.in-Some.chunk) c.self.inside.chunks c.next.new.self c.self.inside.depth c.self.inside.parts
          c.self.view_is c.if-self.true c.in-Some.ensures.steps visible;
    }
