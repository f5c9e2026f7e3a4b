use Rattle.std.proofs.Common.{◌≡◌, IfOk, encode_utf8_all, string_bytes, subst, sym, ap, ◌∙◌}
use Rattle.std.proofs.lemmas.Str.{chars_from_encodes}
use Rattle.caseless.specs.Caseless.{default_case_fold}
use Rattle.unicode_normalization.specs.Forms.{nfd}
use Rattle.file_names.proofs.keys.name_key.Goals as goal

pub returns : goal.returns
returns c =
    let decomposed = chars_from_encodes _ _ c.as_str.utf8 (sym (c.as_str.ensures.value ∙ c.in_ok-decomposed.ensures)) in
    let folded = chars_from_encodes _ _ c.as_str-2.utf8 (sym (c.as_str-2.ensures.value ∙ c.in_ok-folded.ensures)) in
    subst (λ cs. IfOk c.to_nfd-2.result (λ key. string_bytes key ≡ encode_utf8_all (nfd cs))) (sym folded ∙ ap default_case_fold (sym decomposed)) c.to_nfd-2.ensures
