-- Each medium shows the lists of a level.
use Rattle.std.proofs.Common.{◌≡◌, ℕ, List, [], ◌∷◌, ◌++◌, refl, ap, ◌∙◌, append-nil}
use Rattle.std.specs.Prelude.{flat_map, map}
use Rattle.std.proofs.lemmas.Grind.{flat_map-append}
use Rattle.page_model.specs.Content.{BlockSaid, EntrySaid, FormSaid, PartSaid, block}
use Rattle.page_model.specs.declared.parts.Rank.{Rank}
use Rattle.page_model.specs.declared.parts.Rank.TheVariants.{Section, Subsection}
use Rattle.description_pages.specs.Arranged.{body_parts, in_order, section_parts, titled, titled_parts, usage_parts}
use Rattle.description_pages.specs.Levels.{PageSaid, page_of}
use Rattle.description_pages.specs.Manuals.{manual_order, name_parts, without_summary}
use Rattle.description_pages.specs.Media.{MediaListTheSame, list_in, list_of, lists_in, lists_of}
use Rattle.description_pages.specs.References.{with_references}
use Rattle.description_pages.specs.Sections.{BodySaid, listed, told, SectionSaid}
use Rattle.description_pages.specs.Summaries.{summary_of}
use Rattle.description_pages.specs.Topics.{merged}
use Rattle.description_pages.specs.declared.arranged.Case.{Case}
use Rattle.description_pages.specs.declared.arranged.Case.TheVariants.{AsSaid, Capitals}
use Rattle.description_pages.specs.declared.levels.Depth.TheVariants.{Alone, Deep}
use Rattle.description_pages.specs.declared.sections.Detail.TheVariants.{Full}
use Rattle.description_pages.proofs.Unled.{depths_same}
use Rattle.description.specs.Words.{WordsSaid}

-- ---- parts without lists

no_blocks : (blocks : List BlockSaid) → lists_in (map block blocks) ≡ []
no_blocks [] = refl
no_blocks (b ∷ blocks) = no_blocks blocks

no_usage : (forms : List FormSaid) → lists_in (usage_parts forms) ≡ []
no_usage [] = refl
no_usage (form ∷ forms) = refl

under_title : (letters : Case) (rank : Rank) (title : List ℕ) (parts : List PartSaid) → lists_in (titled letters rank title parts) ≡ lists_in parts
under_title letters rank title [] = refl
under_title letters rank title (part ∷ parts) = refl

after_none : (front parts : List PartSaid) (lists : List (List EntrySaid)) → lists_in front ≡ [] → lists_in parts ≡ lists → lists_in (front ++ parts) ≡ lists
after_none front parts lists e f = flat_map-append list_in front parts ∙ ap (λ x. x ++ lists_in parts) e ∙ f

-- ---- sections

of_body : (body : BodySaid) → lists_in (body_parts body) ≡ list_of body
of_body (listed list) = refl
of_body (told blocks) = no_blocks blocks

of_sections : (letters : Case) (rank : Rank) (sections : List SectionSaid) → lists_in (flat_map (section_parts letters rank) sections) ≡ flat_map (λ section. list_of section.body) sections
of_sections letters rank [] = refl
of_sections letters rank (section ∷ sections) =
    flat_map-append list_in (section_parts letters rank section) (flat_map (section_parts letters rank) sections)
    ∙ ap (λ x. x ++ lists_in (flat_map (section_parts letters rank) sections)) (of_body section.body)
    ∙ ap (λ x. list_of section.body ++ x) (of_sections letters rank sections)

of_titled : (letters : Case) (rank : Rank) (fixed : WordsSaid) (sections : List SectionSaid) (see_also : List BlockSaid)
    → lists_in (titled_parts letters rank fixed sections see_also) ≡ flat_map (λ section. list_of section.body) sections
of_titled letters rank fixed sections see_also =
    flat_map-append list_in (flat_map (section_parts letters rank) sections) (titled letters rank fixed.see_also (map block see_also))
    ∙ ap (λ x. lists_in (flat_map (section_parts letters rank) sections) ++ x) (under_title letters rank fixed.see_also (map block see_also) ∙ no_blocks see_also)
    ∙ append-nil (lists_in (flat_map (section_parts letters rank) sections))
    ∙ of_sections letters rank sections

-- ---- pages

of_order : (rank : Rank) (fixed : WordsSaid) (said : PageSaid) → lists_in (in_order rank fixed said) ≡ lists_of said
of_order rank fixed said =
    after_none (map block said.about) _ (lists_of said) (no_blocks said.about)
    (after_none (usage_parts said.usage) _ (lists_of said) (no_usage said.usage)
    (after_none (map block said.header) _ (lists_of said) (no_blocks said.header)
    (of_titled AsSaid rank fixed said.sections said.see_also)))

of_manual : (rank : Rank) (fixed : WordsSaid) (said : PageSaid) → lists_in (manual_order rank fixed said) ≡ lists_of said
of_manual rank fixed said =
    after_none (titled Capitals rank fixed.synopsis (usage_parts said.usage)) _ (lists_of said)
    (under_title Capitals rank fixed.synopsis (usage_parts said.usage) ∙ no_usage said.usage)
    (after_none (titled Capitals rank fixed.description (map block (merged (said.about ++ said.header)))) _ (lists_of said)
    (under_title Capitals rank fixed.description (map block (merged (said.about ++ said.header))) ∙ no_blocks (merged (said.about ++ said.header)))
    (of_titled Capitals rank fixed said.sections said.see_also))

pub media_list_the_same : MediaListTheSame
media_list_the_same fixed subject = (
  after_none (name_parts fixed subject)
      (manual_order Section fixed (without_summary (summary_of subject) (with_references (page_of fixed Full Alone subject)))) (lists_of (page_of fixed Full Alone subject)) refl
      (of_manual Section fixed (without_summary (summary_of subject) (with_references (page_of fixed Full Alone subject)))),
  of_manual Subsection fixed (page_of fixed Full Alone subject),
  λ depth. of_order Section fixed (with_references (page_of fixed Full depth subject)) ∙ depths_same fixed Full depth Alone subject,
  of_order Subsection fixed (page_of fixed Full Deep subject) ∙ depths_same fixed Full Deep Alone subject,
  of_order Section fixed (record (page_of fixed Full Deep subject) { about = [] }) ∙ depths_same fixed Full Deep Alone subject,
  λ detail. of_order Section fixed (page_of fixed detail Alone subject),
)
