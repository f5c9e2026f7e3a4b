use Rattle.std.proofs.Common.{◌≡◌, drop}
use Rattle.bpaf_meta.specs.View.{trees_of}
use Rattle.bpaf_meta.specs.Meta.Normal.{without_skips, and_parts, or_parts, or_state, with_first_command}
use Rattle.bpaf_meta.specs.Meta.Alternatives.{trees_then}
use Rattle.bpaf_meta.specs.Meta.Steps.Forms.{forms_of}
use Rattle.bpaf_meta.specs.Meta.Steps.Passes.{state_of, after_commands}
use Rattle.bpaf_meta.proofs.meta.normal.+normal.Given as goal

abbrev pub invariant-normalize_and-loop-part : goal.invariant-normalize_and-loop-part
invariant-normalize_and-loop-part g l =
    trees_then (forms_of l.kept.items) (without_skips (and_parts l.for_usage (state_of l.running) (trees_of (drop l.part-index l.part-items)))) ≡ without_skips (and_parts l.for_usage (state_of l.fn.state) (trees_of l.parts.items))

abbrev pub invariant-normalize_or-loop-part : goal.invariant-normalize_or-loop-part
invariant-normalize_or-loop-part g l = record {
  form : trees_then (forms_of l.kept.items) (after_commands l.seen_command (without_skips (or_parts l.for_usage (state_of l.first) (state_of l.state) (trees_of (drop l.part-index l.part-items))))) ≡ with_first_command (without_skips (or_parts l.for_usage (state_of l.first) (state_of l.first) (trees_of l.parts.items)));
  state : or_state (state_of l.first) (state_of l.state) (trees_of (drop l.part-index l.part-items)) ≡ or_state (state_of l.first) (state_of l.first) (trees_of l.parts.items);
}
