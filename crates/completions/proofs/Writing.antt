-- Entries one after another.
use Rattle.std.proofs.Common.{◌≡◌, ℕ, cond, List, [], ◌∷◌, ◌++◌, Result, Ok, Err, OnOk, sym, ap, ◌∙◌, append_assoc, append-nil}
use Rattle.std.proofs.lemmas.List.Concat.{flat_map-append}
use Rattle.completions.specs.Content.{EntrySaid}
use Rattle.std.specs.Prelude.{codes, is_ok}
use Rattle.completions.specs.Written.{Writes, data_text, entry_text, line_end, quoted}
use Rattle.completions.specs.declared.shells.Shell.{Shell}

pub data_append : (sh : Shell) (xs ys : List EntrySaid) → data_text sh (xs ++ ys) ≡ data_text sh xs ++ data_text sh ys
data_append sh xs ys = flat_map-append (entry_text sh) xs ys

pub writes_one : (sh : Shell) (old new : List ℕ) (e : EntrySaid) → new ≡ old ++ entry_text sh e → Writes sh old new (e ∷ [])
writes_one sh old new e w = w ∙ ap (λ t. old ++ t) (sym (append-nil (entry_text sh e)))

pub writes_none : (sh : Shell) (old : List ℕ) → Writes sh old old []
writes_none sh old = sym (append-nil old)

pub writes_as : (sh : Shell) (old new : List ℕ) (e f : EntrySaid) → e ≡ f → Writes sh old new (e ∷ []) → Writes sh old new (f ∷ [])
writes_as sh old new e f same w = w ∙ ap (λ x. old ++ data_text sh (x ∷ [])) same

pub writes_then : (sh : Shell) (a b c : List ℕ) (xs ys : List EntrySaid) → Writes sh a b xs → Writes sh b c ys → Writes sh a c (xs ++ ys)
writes_then sh a b c xs ys w v =
    v ∙ ap (λ t. t ++ data_text sh ys) w ∙ append_assoc a (data_text sh xs) (data_text sh ys) ∙ ap (λ t. a ++ t) (sym (data_append sh xs ys))

-- one step of a loop that puts entries, and its end: what is put, and what is left
pub put_next : (sh : Shell) (out new whole : List ℕ) (all one rest : List EntrySaid) → all ≡ one ++ rest → Writes sh out new one → out ++ data_text sh all ≡ whole → new ++ data_text sh rest ≡ whole
put_next sh out new whole all one rest parts w so_far =
    ap (λ t. t ++ data_text sh rest) w
    ∙ append_assoc out (data_text sh one) (data_text sh rest)
    ∙ ap (λ t. out ++ t) (sym (data_append sh one rest))
    ∙ ap (λ es. out ++ data_text sh es) (sym parts)
    ∙ so_far

pub put_none : (sh : Shell) (out whole : List ℕ) (all : List EntrySaid) → all ≡ [] → out ++ data_text sh all ≡ whole → out ≡ whole
put_none sh out whole all none so_far = sym (append-nil out) ∙ ap (λ es. out ++ data_text sh es) (sym none) ∙ so_far

-- a text after others
pub after_this : (r s t y x : List ℕ) → s ≡ r ++ y → t ≡ s ++ x → t ≡ r ++ (y ++ x)
after_this r s t y x h1 h2 = h2 ∙ ap (λ u. u ++ x) h1 ∙ append_assoc r y x

-- the words of an entry, one after another
pub entry_put : (sh : Shell) (e : EntrySaid) (s0 s1 s2 s3 s4 s5 s6 s7 s8 s9 : List ℕ) → s1 ≡ s0 ++ codes "    " → s2 ≡ s1 ++ quoted sh e.what → s3 ≡ s2 ++ codes " " → s4 ≡ s3 ++ quoted sh e.text
    → s5 ≡ s4 ++ codes " " → s6 ≡ s5 ++ quoted sh e.hint → s7 ≡ s6 ++ codes " " → s8 ≡ s7 ++ quoted sh e.help → s9 ≡ s8 ++ line_end sh → Writes sh s0 s9 (e ∷ [])
entry_put sh e s0 s1 s2 s3 s4 s5 s6 s7 s8 s9 h1 h2 h3 h4 h5 h6 h7 h8 h9 =
    let t8 : List ℕ = line_end sh in
    let t7 : List ℕ = quoted sh e.help ++ t8 in
    let t6 : List ℕ = codes " " ++ t7 in
    let t5 : List ℕ = quoted sh e.hint ++ t6 in
    let t4 : List ℕ = codes " " ++ t5 in
    let t3 : List ℕ = quoted sh e.text ++ t4 in
    let t2 : List ℕ = codes " " ++ t3 in
    let t1 : List ℕ = quoted sh e.what ++ t2 in
    writes_one sh s0 s9 e
    (after_this s0 s1 s9 (codes "    ") t1 h1 (after_this s1 s2 s9 (quoted sh e.what) t2 h2 (after_this s2 s3 s9 (codes " ") t3 h3 (after_this s3 s4 s9 (quoted sh e.text) t4 h4
    (after_this s4 s5 s9 (codes " ") t5 h5 (after_this s5 s6 s9 (quoted sh e.hint) t6 h6 (after_this s6 s7 s9 (codes " ") t7 h7 (after_this s7 s8 s9 (quoted sh e.help) t8 h8 h9))))))))

-- what a text that is put leaves
pub pushed : {T E : Type 0} (r : Result T E) (new more same : List ℕ) → new ≡ cond (is_ok r) more same → OnOk r (new ≡ more)
pushed (Ok x) new more same h = h
pushed (Err e) new more same h = tt
