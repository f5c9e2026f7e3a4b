use Rattle.std.proofs.Common.{◌≡◌, ◌∙◌, Some, None, ap, map, subst, sym, MatchOption}
use Rattle.std.specs.Option.{option_or}
use Rattle.page_model.specs.View.{block_of, line_of}
use Rattle.description_texts.specs.Texts.{first_paragraph}
use Rattle.description_pages.proofs.Shortened.{first_else}
use Rattle.description_pages.proofs.summaries.first_of.Goals as goal

pub returns-in-Some : goal.returns-in-Some
returns-in-Some g c =
    first_else (map block_of c.args.help.now) (map block_of c.args.about.now)
    ∙ ap (λ first. option_or first (first_paragraph (map block_of c.args.about.now))) c.in-Some.ensures

pub returns-in-None : goal.returns-in-None
returns-in-None g c =
    subst (λ first. MatchOption c.first_paragraph-in-None.result (first ≡ None) (λ lines. first ≡ Some (map (λ line. line_of line.items) lines.now.items)))
    (sym (first_else (map block_of c.args.help.now) (map block_of c.args.about.now)
    ∙ ap (λ first. option_or first (first_paragraph (map block_of c.args.about.now))) c.in-None.ensures))
    c.first_paragraph-in-None.ensures
