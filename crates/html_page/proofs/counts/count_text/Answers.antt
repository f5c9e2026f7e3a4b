use Rattle.std.proofs.Common.{◌≡◌, ℕ, ◌+◌, Bool, true, false, cond, List, Bor, Some, arith, refl, sym, ap, ◌∙◌}
use Rattle.std.specs.Prelude.{bytes_eq, if◌then◌else◌}
use Rattle.std.specs.Option.{unwrap_or}
use Rattle.std.specs.BTreeMap.{BTreeMap, UpdatesBy, get_by}
use Rattle.std.specs.Cmp.Lexicographic.{bytes_decides, nat_list_eq_equiv, slice_cmp}
use Rattle.std.specs.Ordering.{nat_cmp}
use Rattle.std.proofs.lemmas.Map.Text.{btree_map_updates_str}
use Rattle.html_page.specs.Steps.Counts.{count_of}
use Rattle.html_page.proofs.counts.count_text.Goals as goal

counted : (old new : BTreeMap (Bor (List ℕ)) ℕ) (word : List ℕ) (count : ℕ) → count ≡ count_of old word → UpdatesBy (λ x y. slice_cmp nat_cmp x.now y.now) (λ k. slice_cmp nat_cmp word k.now) old new (Some (count + 1))
    → (other : List ℕ) → count_of new other ≡ count_of old other + (if bytes_eq other word then 1 else 0)
counted old new word count is put other = ap (λ n. unwrap_or n 0) (btree_map_updates_str word old new (Some (count + 1)) put other) ∙ by (bytes_eq word other) refl where
  with_answer : (b : Bool) → bytes_eq word other ≡ b → count_of old other + (if b then 1 else 0) ≡ count_of old other + (if bytes_eq other word then 1 else 0)
  with_answer b h = ap (λ a. count_of old other + (if a then 1 else 0)) (sym (nat_list_eq_equiv.symm other word ∙ h))

  by : (b : Bool) → bytes_eq word other ≡ b → unwrap_or (cond b (Some (count + 1)) (get_by (λ k. slice_cmp nat_cmp other k.now) old)) 0 ≡ count_of old other + (if bytes_eq other word then 1 else 0)
  by true h = ap (λ n. n + 1) (is ∙ ap (count_of old) ((bytes_decides word other).0 h)) ∙ with_answer true h
  by false h = let none : count_of old other ≡ count_of old other + 0 = omega arith in none ∙ with_answer false h

pub returns-clause-ok : goal.returns-clause-ok
returns-clause-ok g c = counted c.args.counts.now c.insert.new.self c.args.text.now c.count_in-count.result c.count_in-count.ensures c.in_ok-insert.ensures.updates
