-- The normal form of a tree shows what the tree shows.
use Rattle.std.proofs.Common.{◌≡◌, Bool, true, false, ◌&&◌, List, [], ◌∷◌, ◌++◌, inl, inr, refl, sym, ap, ◌∙◌, subst, arith}
use Rattle.std.proofs.lemmas.List.{append-nil}
use Rattle.std.specs.Prelude.{if◌then◌else◌}
use Rattle.bpaf_meta.specs.Content.{Tree, and_of, or_of, optional, required, adjacent, item, many, subsection, suffix, skip, custom_usage, strict, Trees, no_trees, tree, Leaf}
use Rattle.bpaf_meta.specs.Meta.Normal.{State, pull, without_skips, and_form, is_command_tree, without_commands, with_first_command, optional_many_form, optional_form, many_form, item_form, strict_if_asked, state_after, state_out, normal_form, and_parts, or_parts, outer_form, normalized}
use Rattle.bpaf_meta.specs.Meta.Sequences.{Symbol, the_command, symbol_of, Language, NoSequence, Only, Maybe, Either, Joined, Repeated, once, again, choice, is_hidden, are_hidden, Shows, ShowsEach, ShowsOne, Same, ShowsSame}

-- languages

same : (P : Language) → Same P P
same P w = ((λ p. p), (λ p. p))

then_same : (P Q R : Language) → Same P Q → Same Q R → Same P R
then_same P Q R f g w = ((λ p. (g w).0 ((f w).0 p)), (λ r. (f w).1 ((g w).1 r)))

back : (P Q : Language) → Same P Q → Same Q P
back P Q f w = ((f w).1, (f w).0)

maybe_keeps : (P Q : Language) → Same P Q → Same (Maybe P) (Maybe Q)
maybe_keeps P Q f w = grind arith

joined_keeps : (P Q P' Q' : Language) → Same P P' → Same Q Q' → Same (Joined P Q) (Joined P' Q')
joined_keeps P Q P' Q' f g w = grind arith

repeated_to : (P Q : Language) → ((w : List Symbol) → P w → Q w) → (w : List Symbol) → Repeated P w → Repeated Q w
repeated_to P Q f w (once p) = once (f w p)
repeated_to P Q f w (again a b e p r) = again a b e (f a p) (repeated_to P Q f b r)

repeated_keeps : (P Q : Language) → Same P Q → Same (Repeated P) (Repeated Q)
repeated_keeps P Q f w = (repeated_to P Q (λ v. (f v).0) w, repeated_to Q P (λ v. (f v).1) w)

joined_nothing : (P : Language) → Same (Joined P (Only [])) P
joined_nothing P w = grind (arith, append-nil)

maybe_joined : (P : Language) (w a b : List Symbol) → w ≡ a ++ b → Maybe P a → Maybe (Repeated P) b → Maybe (Repeated P) w
maybe_joined P w a b e (inl x) (inl y) = inl (rw (e, x, y))
maybe_joined P w a b e (inl x) (inr r) = let is : w ≡ b = rw (e, x) in inr (subst (Repeated P) (sym is) r)
maybe_joined P w a b e (inr p) (inl y) = let is : w ≡ a = e ∙ ap (λ c. a ++ c) y ∙ append-nil a in inr (once (subst P (sym is) p))
maybe_joined P w a b e (inr p) (inr r) = inr (again a b e p r)

-- what is repeated, where each may be left out, is either repeated or left out
maybe_repeated : (P : Language) (w : List Symbol) → Repeated (Maybe P) w → Maybe (Repeated P) w
maybe_repeated P w (once m) = elim m [ inl e ↦ inl e | inr p ↦ inr (once p) ]
maybe_repeated P w (again a b e m r) = maybe_joined P w a b e m (maybe_repeated P b r)

repeated_maybe : (P : Language) → Same (Repeated (Maybe P)) (Maybe (Repeated P))
repeated_maybe P w = (
  maybe_repeated P w,
  (λ m. elim m [ inl e ↦ once (inl e) | inr r ↦ repeated_to P (Maybe P) (λ v p. inr p) w r ]),
)

maybe_maybe : (P : Language) → Same (Maybe P) (Maybe (Maybe P))
maybe_maybe P w = ((λ m. inr m), (λ m. elim m [ inl e ↦ inl e | inr n ↦ n ]))

-- the same choice of the same languages; the second ones need to be the same only where they are chosen
choice_keeps : (b c : Bool) (P Q P' Q' : Language) → b ≡ c → Same P P' → (c ≡ false → Same Q Q') → Same (choice b P Q) (choice c P' Q')
choice_keeps true true P Q P' Q' e f g = f
choice_keeps false false P Q P' Q' e f g = g refl
choice_keeps true false P Q P' Q' e f g = cc
choice_keeps false true P Q P' Q' e f g = cc

choice_false : (b : Bool) (P Q : Language) → b ≡ false → Same (choice b P Q) Q
choice_false b P Q h3 = grind (arith, same)

-- one is hidden where the other is, and otherwise both show the same; so too for the parts of an And or an Or
abbrev pub Alike : (h : Bool) (P : Language) (k : Bool) (Q : Language) → Type 0
Alike h P k Q = (h ≡ k) × (k ≡ false → Same P Q)

abbrev TreesAlike : Bool → Tree → Tree → Type 0
TreesAlike u t v = Alike (is_hidden u t) (Shows u t) (is_hidden u v) (Shows u v)

abbrev PartsAlike : Bool → Trees → Trees → Type 0
PartsAlike u ts vs = (are_hidden u ts ≡ are_hidden u vs) × Same (ShowsEach u ts) (ShowsEach u vs) × Same (ShowsOne u ts) (ShowsOne u vs)

itself : {b : Bool} {P : Language} → Alike b P b P
itself {b} {P} = (refl, λ e. same P)

alike_then : {a b c : Bool} {P Q R : Language} → Alike a P b Q → Alike b Q c R → Alike a P c R
alike_then f g = (f.0 ∙ g.0, λ e. then_same _ _ _ (f.1 (g.0 ∙ e)) (g.1 e))

part_alike : (u : Bool) (t v : Tree) (ts vs : Trees) → TreesAlike u t v → PartsAlike u ts vs → PartsAlike u (tree t ts) (tree v vs)
part_alike u t v ts vs f g = grind (arith, choice_keeps (is_hidden u t) (is_hidden u v), joined_keeps)

-- what the forms show

alone_each : (b : Bool) (P : Language) → Alike b P (b && true) (choice b (Only []) (Joined P (Only [])))
alone_each true P = (refl, λ e. cc)
alone_each false P = (refl, λ e. back _ _ (joined_nothing P))

and_form_alike : (u : Bool) (ts : Trees) → Alike (is_hidden u (and_form ts)) (Shows u (and_form ts)) (are_hidden u ts) (ShowsEach u ts)
and_form_alike u no_trees = (refl, λ e. cc)
and_form_alike u (tree t no_trees) = alone_each (is_hidden u t) (Shows u t)
and_form_alike u (tree t (tree v ts)) = itself

shown_alike : (u : Bool) (ts : Trees) → PartsAlike u (without_skips ts) ts
shown_alike u no_trees = (refl, same _, same _)
shown_alike u (tree skip ts) = shown_alike u ts
shown_alike u (tree t ts) = part_alike u t t (without_skips ts) ts itself (shown_alike u ts)

command_not_hidden : (u : Bool) (t : Tree) → is_command_tree t ≡ true → is_hidden u t ≡ false
command_not_hidden u (subsection t d) e = command_not_hidden u t e
command_not_hidden u x e = grind arith

-- a command shows its one symbol
command_shows : (u : Bool) (t : Tree) → is_command_tree t ≡ true → Same (Shows u t) (Only (the_command ∷ []))
command_shows u (subsection t d) e = command_shows u t e
command_shows u x e = grind (arith, same)

-- the sequence of one command, or one of Q
abbrev CommandOr : Language → Language
CommandOr Q = Either (Only (the_command ∷ [])) Q

command_or_absorbs : (C B : Language) → Same C (Only (the_command ∷ [])) → Same (CommandOr B) (CommandOr (Either C B))
command_or_absorbs C B f w = grind arith

either_under : (P A B : Language) (w : List Symbol) → (CommandOr A w → CommandOr B w) → CommandOr (Either P A) w → CommandOr (Either P B) w
either_under P A B w h4 h5 = grind arith

command_or_choice : (h : Bool) (P A B : Language) → Same (CommandOr A) (CommandOr B) → Same (CommandOr (choice h A (Either P A))) (CommandOr (choice h B (Either P B)))
command_or_choice true P A B f = f
command_or_choice false P A B f = λ w. (either_under P A B w (f w).0, either_under P B A w (f w).1)

without_step : (u : Bool) (t : Tree) (ts : Trees) (b : Bool) → is_command_tree t ≡ b → Same (CommandOr (ShowsOne u (without_commands ts))) (CommandOr (ShowsOne u ts)) → Same (CommandOr (ShowsOne u (if b then without_commands ts else tree t (without_commands ts)))) (CommandOr (ShowsOne u (tree t ts)))
without_step u t ts true e f = grind (arith, command_not_hidden, choice_false, then_same, command_or_absorbs, command_shows, same, back)
without_step u t ts false e f = command_or_choice (is_hidden u t) (Shows u t) (ShowsOne u (without_commands ts)) (ShowsOne u ts) f

without_one : (u : Bool) (ts : Trees) → Same (CommandOr (ShowsOne u (without_commands ts))) (CommandOr (ShowsOne u ts))
without_one u no_trees = same (CommandOr NoSequence)
without_one u (tree t ts) = without_step u t ts (is_command_tree t) refl (without_one u ts)

-- where the first of the parts is a command, the others show no more with their commands than without
first_step : (u : Bool) (t : Tree) (ts : Trees) (b : Bool) → is_command_tree t ≡ b → (are_hidden u (with_first_command ts) ≡ are_hidden u ts) × Same (ShowsOne u (with_first_command ts)) (ShowsOne u ts) → (are_hidden u (tree t (if b then without_commands ts else with_first_command ts)) ≡ are_hidden u (tree t ts)) × Same (ShowsOne u (tree t (if b then without_commands ts else with_first_command ts))) (ShowsOne u (tree t ts))
first_step u t ts b h4 h5 = grind (arith, command_not_hidden, command_shows, same, then_same, choice_false, without_one, back, choice_keeps)

first_alike : (u : Bool) (ts : Trees) → (are_hidden u (with_first_command ts) ≡ are_hidden u ts) × Same (ShowsOne u (with_first_command ts)) (ShowsOne u ts)
first_alike u no_trees = (refl, same NoSequence)
first_alike u (tree t ts) = first_step u t ts (is_command_tree t) refl (first_alike u ts)

optional_many_alike : (u : Bool) (t : Tree) → Alike (is_hidden u (optional_many_form t)) (Shows u (optional_many_form t)) (is_hidden u t) (Maybe (Repeated (Shows u t)))
optional_many_alike u (required t) = (refl, λ e. repeated_maybe (Shows u t))
optional_many_alike u t = itself

optional_alike : (u : Bool) (t : Tree) → Alike (is_hidden u (optional_form t)) (Shows u (optional_form t)) (is_hidden u t) (Maybe (Shows u t))
optional_alike u skip = (refl, λ e. cc)
optional_alike u (optional t) = (refl, λ e. maybe_maybe (Shows u t))
optional_alike u (many t) = optional_many_alike u t
optional_alike u t = itself

many_alike : (u : Bool) (t : Tree) → Alike (is_hidden u (many_form t)) (Shows u (many_form t)) (is_hidden u t) (Repeated (Shows u t))
many_alike u skip = (refl, λ e. cc)
many_alike u t = itself

item_shows : (u : Bool) (l : Leaf) → Same (Shows u (item (item_form u l))) (Shows u (item l))
item_shows u l = let e : symbol_of u (item_form u l) ≡ symbol_of u l = grind arith in rw e (same (Only (symbol_of u l ∷ [])))

mutual
  normal_alike : (u : Bool) (s : State) (t : Tree) → TreesAlike u (normal_form u s t) t
  normal_alike u s (and_of ts) =
      let ns : Trees = and_parts u s ts in
      let shown = shown_alike u ns in
      let parts = and_parts_alike u s ts in
      alike_then (and_form_alike u (without_skips ns)) (shown.0 ∙ parts.0, λ h. then_same _ _ _ shown.1 parts.1)
  normal_alike u s (or_of ts) =
      let ns : Trees = or_parts u s s ts in
      let first = first_alike u (without_skips ns) in
      let shown = shown_alike u ns in
      let parts = or_parts_alike u s s ts in
      alike_then (grind (arith, back, itself)) (first.0 ∙ shown.0 ∙ parts.0, λ h. then_same _ _ _ first.1 (then_same _ _ _ shown.2 parts.2))
  normal_alike u s (optional t) = let f = normal_alike u s t in alike_then (optional_alike u (normal_form u s t)) (f.0, λ h. maybe_keeps _ _ (f.1 h))
  normal_alike u s (required t) = alike_then (grind (arith, itself)) (normal_alike u s t)
  normal_alike u s (adjacent t) = normal_alike u s t
  normal_alike u s (item l) = (refl, λ h. item_shows u l)
  normal_alike u s (many t) = let f = normal_alike u s t in alike_then (many_alike u (normal_form u s t)) (f.0, λ h. repeated_keeps _ _ (f.1 h))
  normal_alike u s (subsection t d) = normal_alike u s t
  normal_alike u s (suffix t d) = normal_alike u s t
  normal_alike u s skip = itself
  normal_alike u s (custom_usage t d) = grind (arith, itself, normal_alike u s t)
  normal_alike u s (strict t) = normal_alike u s t

  and_parts_alike : (u : Bool) (r : State) (ts : Trees) → PartsAlike u (and_parts u r ts) ts
  and_parts_alike u r no_trees = (refl, same _, same _)
  and_parts_alike u r (tree t ts) =
      let g : State = state_out r t in
      part_alike u (strict_if_asked r g (normal_form u r t)) t (and_parts u (state_after r g) ts) ts (grind (arith, normal_alike u r t)) (and_parts_alike u (state_after r (state_out r t)) ts)

  or_parts_alike : (u : Bool) (s f : State) (ts : Trees) → PartsAlike u (or_parts u s f ts) ts
  or_parts_alike u s f no_trees = (refl, same _, same _)
  or_parts_alike u s f (tree t ts) =
      let g : State = state_out s t in
      part_alike u (strict_if_asked f g (normal_form u s t)) t (or_parts u s (state_after f g) ts) ts (grind (arith, normal_alike u s t)) (or_parts_alike u s (state_after f (state_out s t)) ts)

strict_alike : (u : Bool) (s : State) (t v : Tree) → TreesAlike u t v → TreesAlike u (strict_if_asked pull s t) v
strict_alike u s t v h4 = grind arith

-- the normal form shows what the tree shows
pub normalized_shows : (u : Bool) (t : Tree) → ShowsSame u (normalized u t) t
normalized_shows u t =
    let f = strict_alike u (state_out pull t) (outer_form (normal_form u pull t)) t (grind (arith, normal_alike u pull t)) in
    record { hidden = f.0; sequences = f.1 }
