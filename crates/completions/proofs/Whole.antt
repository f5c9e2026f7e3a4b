-- The parts of a script, put one after another.
use Rattle.std.proofs.Common.{◌≡◌, ℕ, List, ◌++◌, ap, ◌∙◌, append_assoc}
use Rattle.completions.specs.Content.{EntrySaid}
use Rattle.completions.specs.Scripts.{before_data, after_data, first_line, head, tag, tagged, tail}
use Rattle.completions.specs.Written.{Writes, data_text}
use Rattle.completions.specs.declared.shells.Shell.{Shell}

pub script_put : (sh : Shell) (name : List ℕ) (es : List EntrySaid) (s1 s2 s3 s4 made : List ℕ) → made ≡ tag name → s1 ≡ first_line sh name → s2 ≡ s1 ++ tagged made (head sh) → Writes sh s2 s3 es → s4 ≡ s3 ++ tagged made (tail sh)
    → s4 ≡ before_data sh name ++ (data_text sh es ++ after_data sh name)
script_put sh name es s1 s2 s3 s4 made e h1 h2 h3 h4 =
    let front : List ℕ = first_line sh name in
    let said : List ℕ = data_text sh es in
    h4
    ∙ ap (λ u. u ++ tagged made (tail sh)) (h3 ∙ ap (λ u. u ++ said) (h2 ∙ ap (λ u. u ++ tagged made (head sh)) h1))
    ∙ append_assoc (front ++ tagged made (head sh)) said (tagged made (tail sh))
    ∙ ap (λ t. (front ++ tagged t (head sh)) ++ (said ++ tagged t (tail sh))) e
