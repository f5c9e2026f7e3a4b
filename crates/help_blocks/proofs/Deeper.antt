-- The laws of the rules.
use Rattle.std.proofs.Common.{◌≡◌, ◌<◌, Bool, true, false, cond, ◌&&◌, refl, sym, ap, ◌∙◌, inl, inr, ◌⊎◌, Option, Some, None}
use Rattle.std.proofs.lemmas.Bool.{ltb-true}
use Rattle.help_blocks.specs.declared.shape.Shape.{Shape}
use Rattle.help_blocks.specs.declared.place.Kind.{Kind}
use Rattle.help_blocks.specs.declared.place.Kind.TheVariants as kind
use Rattle.help_blocks.specs.declared.place.Open.{Open}
use Rattle.help_blocks.specs.declared.place.Place.{Place}
use Rattle.help_blocks.specs.Above.{place_of}
use Rattle.help_blocks.specs.Rules.{goes_on, goes_on_by, goes_on_with, is_deeper, is_entry, is_help, is_title_kind, kind_of}
use Rattle.help_blocks.specs.Laws.{FirstLinesBegin, HelpIsDeeper, TitlesEnd}

-- no line goes on with an entry as with a paragraph
no_paragraph : (k h : Kind) (o : Open) (here : Shape) → is_entry k ≡ true → goes_on_by k h o here ≡ false
no_paragraph kind.Usage h o here e = cc
no_paragraph kind.Title h o here e = refl
no_paragraph kind.Option h o here e = refl
no_paragraph kind.Command h o here e = refl
no_paragraph kind.Value h o here e = refl
no_paragraph kind.Text h o here e = cc
no_paragraph kind.Code h o here e = cc

by_cases : (empty entry deeper help after direct : Bool) → entry ≡ true → direct ≡ false
    → cond empty true (cond (entry && deeper) help (cond after false direct)) ≡ true → (empty ≡ true) ⊎ (deeper ≡ true)
by_cases true entry deeper help after direct e d h = inl refl
by_cases false entry true help after direct e d h = inr refl
by_cases false false false help after direct e d h = cc
by_cases false true false help true direct e d h = cc
by_cases false true false help false direct e d h = cc

none_begun : (goes : Bool) (k : Kind) → cond goes None (Some k) ≡ None → goes ≡ true
none_begun true k h = refl
none_begun false k h = cc

with_entry : (p : Place) (o : Open) (here next : Shape) → is_entry o.kind ≡ true → goes_on_with (Some o) p here next ≡ true → (here.is_empty ≡ true) ⊎ (is_deeper o here ≡ true)
with_entry p o here next e h =
    by_cases here.is_empty (is_entry o.kind) (is_deeper o here) (is_help o p.help here) p.is_after_blank (goes_on_by o.kind (kind_of p here next) o here) e
    (no_paragraph o.kind (kind_of p here next) o here e) h

deeper : (o : Open) (here : Shape) → (here.is_empty ≡ true) ⊎ (is_deeper o here ≡ true) → (here.is_empty ≡ true) ⊎ (o.indent < here.indent)
deeper o here (inl h) = inl h
deeper o here (inr h) = inr (ltb-true o.indent here.indent h)

pub help_is_deeper : HelpIsDeeper
help_is_deeper above entry here next o e n =
    let p : Place = place_of above in
    let goes : goes_on p here next ≡ true = none_begun (goes_on p here next) (kind_of p here next) n in
    deeper entry here (with_entry p entry here next e (sym (ap (λ (b : Option Open). goes_on_with b p here next) o) ∙ goes))

-- nothing goes on with a title
no_more : (k h : Kind) (o : Open) (here : Shape) → is_title_kind k ≡ true → (is_entry k ≡ false) × (goes_on_by k h o here ≡ false)
no_more kind.Usage h o here e = cc
no_more kind.Title h o here e = (refl, refl)
no_more kind.Option h o here e = cc
no_more kind.Command h o here e = cc
no_more kind.Value h o here e = cc
no_more kind.Text h o here e = cc
no_more kind.Code h o here e = cc

but_empty : (empty entry deeper help after direct : Bool) → entry ≡ false → direct ≡ false → cond empty true (cond (entry && deeper) help (cond after false direct)) ≡ true → empty ≡ true
but_empty true entry deeper help after direct e d h = refl
but_empty false true deeper help after direct e d h = cc
but_empty false false deeper help true direct e d h = cc
but_empty false false deeper help false direct e d h = cc

pub titles_end : TitlesEnd
titles_end above title here next o e n =
    let p : Place = place_of above in
    let goes : goes_on p here next ≡ true = none_begun (goes_on p here next) (kind_of p here next) n in
    let no = no_more title.kind (kind_of p here next) title here e in
    but_empty here.is_empty (is_entry title.kind) (is_deeper title here) (is_help title p.help here) p.is_after_blank (goes_on_by title.kind (kind_of p here next) title here) no.0 no.1
    (sym (ap (λ (b : Option Open). goes_on_with b p here next) o) ∙ goes)

pub first_lines_begin : FirstLinesBegin
first_lines_begin here next h = cc
