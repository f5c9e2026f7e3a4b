use Rattle.std.proofs.Common.{◌≡◌, false, ◌++◌, ◌∙◌, ap, drop, take, string_bytes}
use Rattle.std.specs.Prelude.{nat_lt}
use Rattle.std.proofs.lemmas.Result.{on_ok_weaker}
use Rattle.markdown_page.specs.Exact.{guarded, with_end}
use Rattle.markdown_page.specs.Steps.{digits_of, front_mark}
use Rattle.markdown_page.proofs.Fronted.{digits_boundary, from_front, guarded_is, in_three}
use Rattle.markdown_page.proofs.line.push_guarded.Goals as goal

pub range_from-rest-requires : goal.range_from-rest-requires
range_from-rest-requires g c = λ _. rw c.leading_digits-count.ensures (digits_boundary c.args.line.now c.utf8.line)

pub range-requires-clause-end_boundary : goal.range-requires-clause-end_boundary
range-requires-clause-end_boundary g c = rw c.leading_digits-count.ensures (digits_boundary c.args.line.now c.utf8.line)

pub returns : goal.returns
returns g c =
    let line = c.args.line.now in
    let out = string_bytes c.args.out.now in
    let n = digits_of line in
    let count : c.leading_digits-count.result ≡ n = c.leading_digits-count.ensures in
    let rest : c.range_from-rest.result.now ≡ drop n line = c.range_from-rest.ensures.value ∙ ap (λ x. drop x line) count in
    let mark : c.front_mark.result.now ≡ front_mark (nat_lt 0 n) (drop n line) = c.front_mark.ensures ∙ ap (λ x. front_mark (nat_lt 0 x) c.range_from-rest.result.now) count ∙ ap (front_mark (nat_lt 0 n)) rest in
    on_ok_weaker c.push_with_end.result
    (λ e. in_three out (take n line) (front_mark (nat_lt 0 n) (drop n line)) (with_end (drop n line)) (string_bytes c.push_str.new.self) (string_bytes c.push_str-2.new.self) (string_bytes c.push_with_end.new.out) (guarded false line)
    (c.in_ok-push_str.ensures.bytes ∙ ap (λ x. out ++ x) (c.range.ensures.value ∙ from_front c.leading_digits-count.result line ∙ ap (λ x. take x line) count))
    (c.in_ok-push_str-2.ensures.bytes ∙ ap (λ x. string_bytes c.push_str.new.self ++ x) mark)
    (e ∙ ap (λ x. string_bytes c.push_str-2.new.self ++ with_end x) rest)
    (guarded_is line))
    c.push_with_end.ensures
