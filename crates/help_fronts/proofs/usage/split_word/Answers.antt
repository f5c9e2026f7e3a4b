use Rattle.std.proofs.Common.{◌≡◌, ◌+◌, ◌∷◌, ◌∙◌, ap, drop, rules, sym, take}
use Rattle.help_fronts.specs.declared.bytes.Class.TheVariants as class
use Rattle.help_fronts.specs.Bytes.{free_len}
use Rattle.help_fronts.specs.Usages.{usage_words}
use Rattle.help_fronts.proofs.Boundaries.{after_free}
use Rattle.help_fronts.proofs.Runs.{last_is, said, word_first}
use Rattle.help_fronts.proofs.usage.split_word.Goals as goal

pub range_from-requires-then-len-line : goal.range_from-requires-then-len-line
range_from-requires-then-len-line c = λ positive. after_free class.UsageMark c.args.line.now c.free_len-len.result c.utf8.line c.if-len-line.true (rw c.as_bytes.ensures.value at c.free_len-len.ensures.passed (search rules))

pub returns-then-len-line-clause-words : goal.returns-then-len-line-clause-words
returns-then-len-line-clause-words c =
    let line = c.args.line.now in
    let n = c.free_len-len.result in
    let front : c.range.result.now ≡ take n line = search rules in
    let after : c.range_from.result.now ≡ drop n line = search rules in
    let back : c.range_from-then-len-line.result.now ≡ drop (n + 1) line = search rules in
    word_first line n (c.free_len-len.ensures.exact ∙ ap (free_len class.UsageMark) c.as_bytes.ensures.value) c.if-len-line.true ∙ ap (λ w. said w (drop n line) ∷ usage_words (drop (n + 1) line)) (sym front)
    ∙ ap (λ a. said c.range.result.now a ∷ usage_words (drop (n + 1) line)) (sym after) ∙ ap (λ r. said c.range.result.now c.range_from.result.now ∷ usage_words r) (sym back)

pub returns-else-len-line-clause-words : goal.returns-else-len-line-clause-words
returns-else-len-line-clause-words c = last_is c.args.line.now c.free_len-len.result (c.free_len-len.ensures.exact ∙ ap (free_len class.UsageMark) c.as_bytes.ensures.value) c.if-len-line.false
