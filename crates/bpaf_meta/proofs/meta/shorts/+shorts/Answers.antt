use Rattle.std.proofs.Common.{false, ◌≡◌, ℕ, List, [], ◌++◌, ◌+◌, drop, ap, sym, ◌∙◌, arith, append_assoc}
use Rattle.std.specs.List.{flat_map}
use Rattle.std.proofs.lemmas.List.{at_drop_more, append-nil}
use Rattle.std.proofs.lemmas.Grind.{flat_map-append}
use Rattle.bpaf_meta.specs.View.{tree_of, trees_of}
use Rattle.bpaf_meta.specs.declared.meta.Meta.{Meta}
use Rattle.bpaf_meta.specs.Meta.Shorts.{shorts_of_flag, shorts_of_argument, IsFront}
use Rattle.bpaf_meta.specs.Meta.Misplaced.{items_in, items_in_parts}
use Rattle.bpaf_meta.proofs.meta.shorts.+shorts.Goals as goal

front_whole : (xs : List ℕ) → IsFront xs xs
front_whole xs = ([], sym (append-nil xs))

front_then : (xs ys zs : List ℕ) → IsFront xs ys → IsFront ys zs → IsFront xs zs
front_then xs ys zs f g = (f.0 ++ g.0, g.1 ∙ ap (λ ws. ws ++ g.0) f.1 ∙ append_assoc xs f.0 g.0)

-- a turn of the loop
turn : (now after first second all rest : List ℕ) → after ≡ now ++ first → rest ≡ first ++ second → now ++ rest ≡ all → after ++ second ≡ all
turn now after first second all rest e h k = ap (λ ws. ws ++ second) e ∙ append_assoc now first second ∙ ap (λ ws. now ++ ws) (sym h) ∙ k

pub gather_parts-loop-part-init : goal.gather_parts-loop-part-init
gather_parts-loop-part-init g t c = record {
  flags = cc;
  args = cc;
  flags_front = front_whole _;
  args_front = front_whole _;
}

pub gather_parts-returns-in_err-gather-clause-flags_front : goal.gather_parts-returns-in_err-gather-clause-flags_front
gather_parts-returns-in_err-gather-clause-flags_front g t c = front_then _ c.loop-part.flags.items _ c.loop-part.invariant.flags_front c.gather.ensures.flags_front

pub gather_parts-returns-in_err-gather-clause-args_front : goal.gather_parts-returns-in_err-gather-clause-args_front
gather_parts-returns-in_err-gather-clause-args_front g t c = front_then _ c.loop-part.args.items _ c.loop-part.invariant.args_front c.gather.ensures.args_front

pub gather_parts-loop-part-preserved : goal.gather_parts-loop-part-preserved
gather_parts-loop-part-preserved g t c =
    let items = c.deref-part-items.result.now in
    let i = c.loop-part.part-index in
    let item = c.part-item.result in
    let later = items_in_parts false (trees_of (drop (i + 1) items)) in
    let e = at_drop_more (λ (ms : List (Meta g.row.A.Denot)). flat_map shorts_of_flag (items_in_parts false (trees_of ms))) items i item (omega arith) in
    let f = at_drop_more (λ (ms : List (Meta g.row.A.Denot)). flat_map shorts_of_argument (items_in_parts false (trees_of ms))) items i item (omega arith) in
    let flags_here = flat_map-append shorts_of_flag (items_in false (tree_of item)) later in
    let args_here = flat_map-append shorts_of_argument (items_in false (tree_of item)) later in
    record {
      flags = turn c.loop-part.flags.items c.gather.new.flags.items (flat_map shorts_of_flag (items_in false (tree_of item))) (flat_map shorts_of_flag later) _ _ (cc (c.in_ok-gather.ensures.flags, c.part-item.is)) (cc (e, flags_here, c.part-item.is)) c.loop-part.invariant.flags;
      args = turn c.loop-part.args.items c.gather.new.args.items (flat_map shorts_of_argument (items_in false (tree_of item))) (flat_map shorts_of_argument later) _ _ (cc (c.in_ok-gather.ensures.args, c.part-item.is)) (cc (f, args_here, c.part-item.is)) c.loop-part.invariant.args;
      flags_front = front_then _ c.loop-part.flags.items _ c.loop-part.invariant.flags_front c.gather.ensures.flags_front;
      args_front = front_then _ c.loop-part.args.items _ c.loop-part.invariant.args_front c.gather.ensures.args_front;
    }
