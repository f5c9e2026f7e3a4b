-- Where passages may go.
use Rattle.std.proofs.Common.{◌≡◌, ℕ, Bool, true, false, not, cond, ◌&&◌, List, [], ◌∷◌, length, refl, sym, ap, ◌∙◌, subst}
use Rattle.std.specs.List.{list_all}
use Rattle.std.proofs.lemmas.Bool.{and_parts}
use Rattle.std.proofs.lemmas.List.{nil_from_length}
use Rattle.page_model.specs.Permitted.{are_permitted}
use Rattle.help_blocks.specs.Laws.{is_usage_kind}
use Rattle.help_blocks.specs.declared.place.Kind.{Kind}
use Rattle.help_blocks.specs.declared.place.Kind.TheVariants as kind
use Rattle.drafts.specs.Passages.{PassageSaid, first_line}
use Rattle.drafts.specs.Places.{MarkedSaid, PlacedSaid, above_with, around_lists, ends_topic, entry_role, is_about, is_empty, is_kept, is_title, kind_role, marked, nothing_above, own_part, part_below, placed_from, role_in, role_of, text_role, title_part, title_role}
use Rattle.drafts.specs.Seen.{is_heading, is_usual, title_text}
use Rattle.drafts.specs.declared.places.Above.{Above}
use Rattle.drafts.specs.declared.places.Part.{Part}
use Rattle.drafts.specs.declared.places.Part.TheVariants as part
use Rattle.drafts.specs.declared.places.Role.{Role}
use Rattle.drafts.specs.declared.places.Role.TheVariants as role
use Rattle.drafts.specs.Laws.{EachIsBelowItsTitle, StandBelow, title_after}
use Rattle.drafts.proofs.Trims.{is_nothing}

-- ---- what each role needs

abbrev pub IsTitle : PassageSaid → Type 0
IsTitle p = (is_title p.kind ≡ true) × (is_empty p.lines ≡ false)

abbrev pub IsUsage : PassageSaid → Type 0
IsUsage p = (is_usage_kind p.kind ≡ true) × (is_empty p.lines ≡ false)

abbrev Needs : MarkedSaid → (own above : Part) → Role → Type 0
Needs m own above role.Nothing = m.passage.lines ≡ []
Needs m own above role.Usage = IsUsage m.passage
Needs m own above role.InTopic = (is_title m.passage.kind ≡ false) × (own ≡ part.Topic)
Needs m own above role.Entry = m.is_written ≡ true
Needs m own above role.Member = (above ≡ part.Group) × (m.is_written ≡ true)
Needs m own above role.Topic = IsTitle m.passage
Needs m own above role.Group = IsTitle m.passage
Needs m own above role.Usual = IsTitle m.passage
Needs m own above _ = Unit {0}

module _ (own : Part) (m : MarkedSaid) (a : Above) where
  abbrev Has : Role → Type 0
  Has r = Needs m own a.part r

  around : Has (around_lists a)
  around = by a.has_entry where
    by : (t : Bool) → Has (cond t role.Footer role.Header)
    by true = tt
    by false = tt

  of_entry : (p : Part) (written : Bool) → a.part ≡ p → m.is_written ≡ written → Has (entry_role p written)
  of_entry p false e w = tt
  of_entry part.First true e w = w
  of_entry part.Group true e w = (e, w)
  of_entry part.List true e w = w
  of_entry part.Topic true e w = w
  of_entry part.Loose true e w = w

  of_list_title : (usual heading : Bool) → IsTitle m.passage → Has (cond usual role.Usual (cond heading role.LeftOut (around_lists a)))
  of_list_title true heading t = t
  of_list_title false true t = tt
  of_list_title false false t = around

  of_title : (p : Part) (title : List ℕ) → IsTitle m.passage → Has (title_role p title a)
  of_title part.First title t = around
  of_title part.Group title t = t
  of_title part.List title t = of_list_title (is_usual title) (is_heading title) t
  of_title part.Topic title t = t
  of_title part.Loose title t = around

  of_first : (is_about : Bool) → Has (cond is_about role.About (around_lists a))
  of_first true = tt
  of_first false = around

  of_text : (p : Part) (leads_on : Bool) → own ≡ p → is_title m.passage.kind ≡ false → Has (text_role p leads_on a)
  of_text part.First leads_on e t = of_first (is_about a && not leads_on)
  of_text part.Group leads_on e t = around
  of_text part.List leads_on e t = around
  of_text part.Topic leads_on e t = (t, e)
  of_text part.Loose leads_on e t = around

  of_kind : (k : Kind) → m.passage.kind ≡ k → is_empty m.passage.lines ≡ false → Has (kind_role k own m a)
  of_kind kind.Usage e some = (ap is_usage_kind e, some)
  of_kind kind.Title e some = of_title own _ (ap is_title e, some)
  of_kind kind.Option e some = of_entry a.part m.is_written refl refl
  of_kind kind.Command e some = of_entry a.part m.is_written refl refl
  of_kind kind.Value e some = of_entry a.part m.is_written refl refl
  of_kind kind.Text e some = of_text own _ refl (ap is_title e)
  of_kind kind.Code e some = of_text own _ refl (ap is_title e)

  has_needed : Has (role_in own m a)
  has_needed = by (is_empty m.passage.lines) (list_all are_permitted m.passage.lines) refl where
    by : (empty permitted : Bool) → is_empty m.passage.lines ≡ empty → Has (cond empty role.Nothing (cond permitted (kind_role m.passage.kind own m a) role.LeftOut))
    by true permitted e = nil_from_length m.passage.lines (is_nothing (length m.passage.lines) e)
    by false true e = of_kind m.passage.kind refl e
    by false false e = tt

-- an entry is written
pub written_entry : (m : MarkedSaid) (own : Part) (a : Above) → role_in own m a ≡ role.Entry → m.is_written ≡ true
written_entry m own a e = subst (Needs m own a.part) e (has_needed own m a)

pub written_member : (m : MarkedSaid) (own : Part) (a : Above) → role_in own m a ≡ role.Member → m.is_written ≡ true
written_member m own a e = (subst (Needs m own a.part) e (has_needed own m a)).1

-- ---- what a title begins

abbrev Begins : (t : Role) → Part → Type 0
Begins t p = (p ≡ part.Topic → t ≡ role.Topic) × (p ≡ part.Group → t ≡ role.Group)

loose_begins : (t : Role) → Begins t part.Loose
loose_begins t = ((λ e. cc), (λ e. cc))

goes_on : (t : Role) (ended : Bool) (p : Part) → Begins t p → Begins t (cond ended part.Loose p)
goes_on t true p h = loose_begins t
goes_on t false p h = h

title_begins : (p : Part) (title : List ℕ) (a : Above) → Begins (title_role p title a) p
title_begins part.First title a = ((λ e. cc), (λ e. cc))
title_begins part.Group title a = ((λ e. cc), (λ e. refl))
title_begins part.List title a = ((λ e. cc), (λ e. cc))
title_begins part.Topic title a = ((λ e. refl), (λ e. cc))
title_begins part.Loose title a = loose_begins (title_role part.Loose title a)

pub title_kind : (k : Kind) → is_title k ≡ true → k ≡ kind.Title
title_kind kind.Title h = refl
title_kind kind.Usage h = cc
title_kind kind.Option h = cc
title_kind kind.Command h = cc
title_kind kind.Value h = cc
title_kind kind.Text h = cc
title_kind kind.Code h = cc

abbrev text_role_in : (own : Part) → MarkedSaid → Above → (empty permitted : Bool) → Role
text_role_in own m a empty permitted = cond empty role.Nothing (cond permitted (kind_role m.passage.kind own m a) role.LeftOut)

role_is : (own : Part) (m : MarkedSaid) (a : Above) → is_title m.passage.kind ≡ true → is_kept m.passage ≡ true → role_in own m a ≡ title_role own (title_text (first_line m.passage.lines)) a
role_is own m a h kept =
    let both = and_parts (not (is_empty m.passage.lines)) (list_all are_permitted m.passage.lines) kept in
    by (is_empty m.passage.lines) both.0 ∙ ap (λ permitted. text_role_in own m a false permitted) both.1 ∙ ap (λ k. kind_role k own m a) (title_kind m.passage.kind h) where
      by : (empty : Bool) → not empty ≡ true → text_role_in own m a empty (list_all are_permitted m.passage.lines) ≡ text_role_in own m a false (list_all are_permitted m.passage.lines)
      by true e = cc
      by false e = refl

abbrev own_by : (title : Bool) → MarkedSaid → (below : List MarkedSaid) → Above → Part
own_by title m ms a = cond title (title_part m.passage ms) (cond (ends_topic m.passage a) part.Loose a.part)

-- a passage with its role
abbrev placed_here : MarkedSaid → (below : List MarkedSaid) → Above → PlacedSaid
placed_here m ms a = record { passage = m.passage; role = role_of m ms a }

after : (t : Role) (a : Above) (m : MarkedSaid) (ms : List MarkedSaid) → Begins t a.part → Begins (title_after t (placed_here m ms a)) (own_part m ms a)
after t a m ms begins = by (is_title m.passage.kind) refl where
  kept : (own : Part) → (k : Bool) → is_kept m.passage ≡ k → is_title m.passage.kind ≡ true
      → own ≡ cond k (part_below (title_text (first_line m.passage.lines)) ms) part.Loose → Begins (role_in own m a) own
  kept own true k h e = subst (λ r. Begins r own) (sym (role_is own m a h k)) (title_begins own (title_text (first_line m.passage.lines)) a)
  kept own false k h e = subst (Begins (role_in own m a)) (sym e) (loose_begins (role_in own m a))

  by : (b : Bool) → is_title m.passage.kind ≡ b → Begins (cond b (role_of m ms a) t) (own_part m ms a)
  by true h = kept (own_part m ms a) (is_kept m.passage) refl h (ap (λ b. own_by b m ms a) h)
  by false h = subst (Begins t) (sym (ap (λ b. own_by b m ms a) h)) (goes_on t (ends_topic m.passage a) a.part begins)

still : (ended : Bool) (p : Part) → cond ended part.Loose p ≡ part.Topic → p ≡ part.Topic
still true p h = cc
still false p h = h

-- ---- all passages

-- below a title with this role
pub record Fits (title : Role) (p : PlacedSaid) : Type 0 where
  pub nothing : p.role ≡ role.Nothing → p.passage.lines ≡ []
  pub in_topic : p.role ≡ role.InTopic → (title ≡ role.Topic) × (is_title p.passage.kind ≡ false)
  pub member : p.role ≡ role.Member → title ≡ role.Group
  pub topic : p.role ≡ role.Topic → IsTitle p.passage
  pub group : p.role ≡ role.Group → IsTitle p.passage
  pub usual : p.role ≡ role.Usual → IsTitle p.passage
  pub usage : p.role ≡ role.Usage → IsUsage p.passage

abbrev pub AllFit : (title : Role) → List PlacedSaid → Type 0
AllFit t [] = Unit {0}
AllFit t (p ∷ ps) = Fits t p × AllFit (title_after t p) ps

one_fits : (t : Role) (a : Above) (m : MarkedSaid) (ms : List MarkedSaid) → Begins t a.part → Fits t (placed_here m ms a)
one_fits t a m ms begins =
    let own = own_part m ms a in
    let Has' : Role → Type 0 = Needs m own a.part in
    let has = has_needed own m a in record {
      nothing = λ e. subst Has' e has;
      in_topic = λ e. let n = subst Has' e has in (begins.0 (still (ends_topic m.passage a) a.part (sym (ap (λ b. own_by b m ms a) n.0) ∙ n.1)), n.0);
      member = λ e. begins.1 (subst Has' e has).0;
      topic = λ e. subst Has' e has;
      group = λ e. subst Has' e has;
      usual = λ e. subst Has' e has;
      usage = λ e. subst Has' e has;
    }

fit_from : (t : Role) (a : Above) (ms : List MarkedSaid) → Begins t a.part → AllFit t (placed_from a ms)
fit_from t a [] begins = tt
fit_from t a (m ∷ ms) begins = (one_fits t a m ms begins, fit_from (title_after t (placed_here m ms a)) (above_with m ms a) ms (after t a m ms begins))

pub all_fit : (ps : List PassageSaid) → AllFit role.Nothing (placed_from nothing_above (marked ps))
all_fit ps = fit_from role.Nothing nothing_above (marked ps) ((λ e. cc), (λ e. cc))

all_below : (t : Role) (ps : List PlacedSaid) → AllFit t ps → StandBelow t ps
all_below t [] fit = tt
all_below t (p ∷ ps) fit = ((λ e. (fit.0.in_topic e).0), fit.0.member, all_below (title_after t p) ps fit.1)

pub each_is_below_its_title : EachIsBelowItsTitle
each_is_below_its_title ps = all_below role.Nothing (placed_from nothing_above (marked ps)) (all_fit ps)
