-- The pages of a command, and pages whose names are alike.
use Rattle.std.proofs.Common.{◌≡◌, ℕ, ◌+◌, ◌<◌, Bool, false, ◌||◌, List, [], ◌∷◌, ◌++◌, length, take, drop, flat_map, get_or, map, sym, ap, ◌∙◌, append_assoc}
use Rattle.std.specs.Prelude.{bytes_eq, if◌then◌else◌}
use Rattle.std.proofs.lemmas.List.{drop_more, map-append, take_more}
use Rattle.std.proofs.lemmas.List.Folds.{list_any-append}
use Rattle.description.specs.View.{command_said, level_said}
use Rattle.description.specs.declared.levels.Command.{Command, out-Command}
use Rattle.description.proofs.Views.{open-Command}
use Rattle.description.specs.Content.{DescriptionSaid}
use Rattle.description_hints.specs.Content.{Path, PageSiteSaid, WarningSaid, alike_name}
use Rattle.description_hints.specs.Hints.{about_path, alike_warnings, file_warnings, hint_if, name_hints, page_key, page_warnings}
use Rattle.description_hints.specs.Names.{is_among}
use Rattle.description_hints.specs.Pages.{command_pages, page, page_below, pages, pages_below, web_name}
use Rattle.description_hints.specs.View.{page_site_said, path_said}
use Rattle.description_hints.specs.declared.pages.PageSite.{PageSite}
use Rattle.description_hints.proofs.Levels.{three_put}

-- ---- a command that is not hidden

module _ {A : Type 0} (path : Path) (above : List ℕ) (c : Command A) where
  abbrev own_name : List ℕ
  own_name = page_below above (out-Command A c).name.now

  -- its page, where it has this name, and those below it
  abbrev from_name : List ℕ → List PageSiteSaid
  from_name name = page path name ∷ pages_below path name (level_said (out-Command A c).level)

  shown_there : (out-Command A c).hidden ≡ false → command_pages path above (command_said c) ≡ from_name own_name
  shown_there h = ap (command_pages path above) (open-Command c) ∙ ap (λ b. if b then [] else from_name own_name) h

pub command_put : {A : Type 0} (above : List ℕ) (x : PageSite) (c : Command A) (xs ys : List PageSite) (after : List PageSiteSaid) → (out-Command A c).hidden ≡ false → x.name.now ≡ page_below above (out-Command A c).name.now → ys ≡ xs ++ x ∷ []
    → after ≡ map page_site_said ys ++ pages_below (path_said x.path.now) x.name.now (level_said (out-Command A c).level) → after ≡ map page_site_said xs ++ command_pages (path_said x.path.now) above (command_said c)
command_put {A} above x c xs ys after h is pushed put =
    let path = path_said x.path.now in
    let below = pages_below path x.name.now (level_said (out-Command A c).level) in
    put ∙ ap (λ s. map page_site_said s ++ below) pushed ∙ ap (λ s. s ++ below) (map-append page_site_said xs (x ∷ [])) ∙ append_assoc (map page_site_said xs) (page_site_said x ∷ []) below
    ∙ ap (λ name. map page_site_said xs ++ from_name path above c name) is ∙ ap (λ more. map page_site_said xs ++ more) (sym (shown_there path above c h))

-- ---- one page more

module _ (ps : List PageSite) (i : ℕ) (d : PageSite) (within : i < length ps) where
  abbrev own : PageSiteSaid
  own = page_site_said (get_or ps i d)

  abbrev before : List (List ℕ)
  before = map page_key (map page_site_said (take i ps))

  abbrev after : List PageSiteSaid
  after = map page_site_said (drop (i + 1) ps)

  front : map page_key (map page_site_said (take (i + 1) ps)) ≡ before ++ page_key own ∷ []
  front =
      ap (λ qs. map page_key (map page_site_said qs)) (take_more ps i d within) ∙ ap (map page_key) (map-append page_site_said (take i ps) (get_or ps i d ∷ []))
      ∙ map-append page_key (map page_site_said (take i ps)) (own ∷ [])

  pub alike_more : (s t whole : List WarningSaid) (b : Bool) → s ++ alike_warnings before (map page_site_said (drop i ps)) ≡ whole → t ≡ s ++ about_path own.path (hint_if b (alike_name own.name)) → b ≡ is_among before (page_key own)
      → t ++ alike_warnings (map page_key (map page_site_said (take (i + 1) ps))) after ≡ whole
  alike_more s t whole b so_far put is =
      ap (λ bs. t ++ alike_warnings bs after) front ∙ ap (λ ws. ws ++ alike_warnings (before ++ page_key own ∷ []) after) (put ∙ ap (λ b. s ++ about_path own.path (hint_if b (alike_name own.name))) is)
      ∙ append_assoc s (about_path own.path (hint_if (is_among before (page_key own)) (alike_name own.name))) (alike_warnings (before ++ page_key own ∷ []) after)
      ∙ ap (λ qs. s ++ alike_warnings before (map page_site_said qs)) (sym (drop_more ps i d within)) ∙ so_far

  pub known_more : (f g : List ℕ → Bool) → ((word : List ℕ) → f word ≡ is_among before word) → ((word : List ℕ) → g word ≡ (f word || (bytes_eq word (page_key own) || false)))
      → (word : List ℕ) → g word ≡ is_among (map page_key (map page_site_said (take (i + 1) ps))) word
  known_more f g so_far put word =
      put word ∙ ap (λ b. b || (bytes_eq word (page_key own) || false)) (so_far word)
      ∙ sym (ap (λ ks. is_among ks word) front ∙ list_any-append (bytes_eq word) before (page_key own ∷ []))

-- ---- all pages

pub files_put : (d : DescriptionSaid) (ps qs xs : List PageSite) → ps ≡ xs → qs ≡ xs → map page_site_said xs ≡ pages d → (s0 s1 s2 s3 : List WarningSaid) → s1 ≡ s0 ++ flat_map (page_warnings d.section) (map page_site_said ps)
    → s2 ≡ s1 ++ about_path [] (name_hints (web_name d.name)) → s3 ≡ s2 ++ alike_warnings [] (map page_site_said qs) → s3 ≡ s0 ++ file_warnings d
files_put d ps qs xs ip iq is s0 s1 s2 s3 h1 h2 h3 =
    let web = about_path [] (name_hints (web_name d.name)) in
    three_put (flat_map (page_warnings d.section) (map page_site_said ps)) web (alike_warnings [] (map page_site_said qs)) s0 s1 s2 s3 h1 h2 h3
    ∙ ap (λ ys. s0 ++ (flat_map (page_warnings d.section) ys ++ web ++ alike_warnings [] (map page_site_said qs))) (ap (map page_site_said) ip ∙ is)
    ∙ ap (λ ys. s0 ++ (flat_map (page_warnings d.section) (pages d) ++ web ++ alike_warnings [] ys)) (ap (map page_site_said) iq ∙ is)
