-- Pages, each with what is written for it and how that reads, and texts that the reader takes or refuses.
use Rattle.std.specs.Prelude.{◌≡◌, ℕ, List, [], ◌∷◌, ◌++◌, Option, Some, None, codes}
use Rattle.std.proofs.Common.{refl}
use Rattle.page_model.specs.Content.{words, literal, value, link, page, paragraph, code, bullets, to_page, heading, usage, block, entries, PartSaid}
use Rattle.page_model.specs.declared.parts.Rank.TheVariants.{Section, Subsection}
use Rattle.markdown_page.specs.Sheet.{Said, Item, Paragraph, Code}
use Rattle.markdown_page.specs.Kept.{leading_to, page_kept, plain, spanned}
use Rattle.markdown_page.specs.Exact.{page_text}
use Rattle.markdown_page.specs.Reader.{read}

-- after the title this is written, and it reads back
abbrev IsWrittenAs : List PartSaid → List ℕ → Type 0
IsWrittenAs parts bytes = (page_text (codes "t") parts ≡ codes "# t\n" ++ bytes) × (read (codes "# t\n" ++ bytes) ≡ Some (page_kept (codes "t") parts))

pub writes :
    -- nothing but a title
    IsWrittenAs [] []
    -- headings: with a number sign, signs, blanks at its ends, and an empty one
    × IsWrittenAs (heading Section (codes "C# 1.") ∷ heading Subsection (codes "- *a* `b` [c] <d> {e} \\") ∷ heading Section (codes " a\n") ∷ heading Section [] ∷ [])
    (codes "\n## C\\# 1.\n\n### - \\*a\\* \\`b\\` \\[c\\] \\<d> &#123;e} \\\\\n\n## &#32;a&#32;\n\n## &#32;\n")
    -- a paragraph with line breaks, one with an empty line, and one with none, which is nothing
    × IsWrittenAs (block (paragraph ((words (codes "a_b _c_ d_") ∷ value (codes "e") ∷ []) ∷ (words (codes " f ") ∷ []) ∷ [] ∷ (words (codes "1. g") ∷ []) ∷ [])) ∷ block (paragraph ([] ∷ [])) ∷ block (paragraph []) ∷ [])
    (codes "\na_b \\_c\\_ d\\_e\\\n&#32;f&#32;\\\n&#32;\\\n1\\. g\n\n&#32;\n")
    -- fronts of lines
    × IsWrittenAs (block (paragraph ((words (codes "# a") ∷ []) ∷ (words (codes "- a") ∷ []) ∷ (words (codes "> a") ∷ []) ∷ (words (codes "~~~") ∷ []) ∷ (words (codes "12) a") ∷ []) ∷ (words (codes "1") ∷ value (codes ".") ∷ []) ∷ (words (codes "12") ∷ []) ∷ [])) ∷ [])
    (codes "\n\\# a\\\n\\- a\\\n\\> a\\\n\\~~~\\\n12\\) a\\\n1\\.\\\n12\n")
    -- ampersands and exclamation marks
    × IsWrittenAs (block (paragraph ((words (codes "a & b &amp; &#1; !") ∷ page (codes "p q") ∷ words (codes "! &") ∷ value (codes "lt;") ∷ []) ∷ [])) ∷ [])
    (codes "\na & b \\&amp; \\&#1; \\![p q](p%20q.md)! \\&lt;\n")
    -- literals: that touch, with backquotes, with blanks at an end, of blanks, and empty ones
    × IsWrittenAs (block (paragraph ((literal (codes "-a") ∷ literal [] ∷ words [] ∷ literal (codes "b") ∷ words (codes ", ") ∷ literal (codes "``") ∷ words (codes " ") ∷ literal (codes "a`b``c") ∷ words (codes " ") ∷ literal (codes " a") ∷ words (codes " ") ∷ literal (codes " \t") ∷ words (codes "`") ∷ literal (codes "`") ∷ []) ∷ (literal (codes "``` `` `") ∷ []) ∷ [])) ∷ [])
    (codes "\n`-ab`, ` `` ` ```a`b``c``` `  a ` `  `\\``` ` ``\\\n```` ``` `` ` ````\n")
    -- links: to an address, and texts that are not links
    × IsWrittenAs (block (paragraph ((link (codes "https://a.b/c?d=1&e=_*") ∷ words (codes " ") ∷ link (codes "https://a b") ∷ words (codes " ") ∷ link (codes "a_") ∷ page [] ∷ []) ∷ [])) ∷ [])
    (codes "\n<https://a.b/c?d=1&amp;e=_*> https://a b a\\_\n")
    -- an entry with two terms, and code, items and a paragraph in its body; one without anything; and links
    × IsWrittenAs (entries (record { word = []; target = None; terms = (literal (codes "-a") ∷ []) ∷ (literal (codes "--all") ∷ words (codes "=") ∷ value (codes "X") ∷ []) ∷ []; body = paragraph ((words (codes "p") ∷ []) ∷ (words (codes "q") ∷ []) ∷ []) ∷ code (codes "x" ∷ [] ∷ codes "  ```` y" ∷ []) ∷ bullets (((words (codes "i") ∷ []) ∷ (words (codes "j") ∷ []) ∷ []) ∷ [] ∷ ((words (codes "k") ∷ []) ∷ []) ∷ []) ∷ paragraph ((words (codes "l") ∷ []) ∷ []) ∷ [] } ∷ record { word = []; target = None; terms = []; body = [] } ∷ record { word = []; target = Some (to_page (codes "t-s")); terms = (literal (codes "s") ∷ []) ∷ (literal (codes "x") ∷ []) ∷ []; body = [] } ∷ record { word = []; target = Some (to_page (codes "t-s")); terms = (literal (codes "]:") ∷ []) ∷ []; body = paragraph [] ∷ paragraph ((words (codes "l") ∷ []) ∷ []) ∷ [] } ∷ []) ∷ [])
    (codes "\n- `-a`, `--all=X`" ++ (32 ∷ 226 ∷ 128 ∷ 148 ∷ 32 ∷ codes "p\\\n  q\n\n  `````\n  x\n\n    ```` y\n  `````\n\n  - i\\\n    j\n  - k\n\n  l\n\n- &#32;\n\n- [`s`](t-s.md), `x`\n\n- `]:`\n\n  l\n"))
    -- lists that touch are one
    × IsWrittenAs (block (bullets (((words (codes "a") ∷ []) ∷ []) ∷ [])) ∷ block (bullets (((literal (codes "```") ∷ words (codes "b") ∷ []) ∷ []) ∷ [])) ∷ [])
    (codes "\n- a\n\n- ` ``` `b\n")
    -- usages, one of which has no name, and no usage
    × IsWrittenAs (usage (record { name = codes "a b"; items = (words (codes "[") ∷ literal (codes "-a") ∷ words (codes " B]") ∷ []) ∷ (value (codes "C") ∷ []) ∷ [] } ∷ record { name = []; items = [] } ∷ []) ∷ usage [] ∷ [])
    (codes "\n```\na b [-a B] C\n\n```\n\n```\n```\n")
writes = ((refl, refl), (refl, refl), (refl, refl), (refl, refl), (refl, refl), (refl, refl), (refl, refl), (refl, refl), (refl, refl), (refl, refl))

-- ---- what the reader reads

abbrev says : List Said → Option (List Said)
says said = Some said

abbrev line : List ℕ → List Said
line bytes = Paragraph 0 (plain bytes ∷ []) ∷ []

pub reads :
    -- lines with a line break between two, and paragraphs with an empty line between two
    (read (codes "a\\\nb\n\nc\n") ≡ says (Paragraph 0 (plain (codes "a") ∷ plain (codes "b") ∷ []) ∷ line (codes "c")))
    -- a line break in an empty line
    × (read (codes "a\\\n\\\nb\n") ≡ says (Paragraph 0 (plain (codes "a") ∷ [] ∷ plain (codes "b") ∷ []) ∷ []))
    -- escapes, and a blank and a brace by their numbers
    × (read (codes "\\#\\*\\`\\&amp;&#32;\n") ≡ says (line (codes "#*`&amp; ")))
    × (read (codes "&#123;&#123;a}} &#123;% b\n") ≡ says (line (codes "{{a}} {% b")))
    -- what is not a mark where it stands
    × (read (codes "a_b & c! d# ~ >\n") ≡ says (line (codes "a_b & c! d# ~ >")))
    -- code spans, with a blank more at their ends than they show or not
    × (read (codes "``a`b`` ` c ` `  ` `d `\n") ≡ says (Paragraph 0 ((spanned (codes "a`b") ++ (plain (codes " ") ++ (spanned (codes "c") ++ (plain (codes " ") ++ (spanned (codes "  ") ++ (plain (codes " ") ++ spanned (codes "d "))))))) ∷ []) ∷ []))
    -- links
    × (read (codes "[a`b`](c.md)<http://d>\n") ≡ says (Paragraph 0 ((leading_to (codes "c.md") (plain (codes "a") ++ spanned (codes "b")) ++ leading_to (codes "http://d") (plain (codes "http://d"))) ∷ []) ∷ []))
    -- items, with empty lines between them or not, one nested, and a paragraph after them
    × (read (codes "- a\n- b\n\n  - c\n\n- d\n\ne\n") ≡ says (Item 0 ∷ Paragraph 1 (plain (codes "a") ∷ []) ∷ Item 0 ∷ Paragraph 1 (plain (codes "b") ∷ []) ∷ Item 1 ∷ Paragraph 2 (plain (codes "c") ∷ []) ∷ Item 0 ∷ Paragraph 1 (plain (codes "d") ∷ []) ∷ line (codes "e")))
    -- code in an item, and a line that would end it, were it longer
    × (read (codes "- a\n\n  ````\n    b\n\n  ```\n  `````\n") ≡ says (Item 0 ∷ Paragraph 1 (plain (codes "a") ∷ []) ∷ Code 1 (codes "  b" ∷ [] ∷ codes "```" ∷ []) ∷ []))
    -- code with a tab
    × (read (codes "```\n\ta\n```\n") ≡ says (Code 0 (codes "\ta" ∷ []) ∷ []))
    -- what begins like code or a number
    × (read (codes "``` a```\n\n12\n") ≡ says (Paragraph 0 (spanned (codes " a") ∷ []) ∷ line (codes "12")))
reads = (refl, refl, refl, refl, refl, refl, refl, refl, refl, refl, refl)

pub refuses :
    -- a text that does not end with a newline
    (read (codes "a") ≡ None)
    -- lines that go on with a paragraph, or with an item
    × (read (codes "a\nb\n") ≡ None)
    × (read (codes "- a\nb\n") ≡ None)
    -- blanks at the ends of a line
    × (read (codes " a\n") ≡ None)
    × (read (codes "a \n") ≡ None)
    × (read (codes "    a\n") ≡ None)
    -- a line break that ends a paragraph, and one in a heading
    × (read (codes "a\\\n") ≡ None)
    × (read (codes "a\\\n\nb\n") ≡ None)
    × (read (codes "# a\\\n") ≡ None)
    -- other blocks
    × (read (codes "---\n") ≡ None)
    × (read (codes "a\n===\n") ≡ None)
    × (read (codes "> a\n") ≡ None)
    × (read (codes "+ a\n") ≡ None)
    × (read (codes "1. a\n") ≡ None)
    × (read (codes "~~~\na\n~~~\n") ≡ None)
    × (read (codes "- - -\n") ≡ None)
    × (read (codes "- # a\n") ≡ None)
    -- a heading that has a number sign, and one in an item
    × (read (codes "# a #\n") ≡ None)
    × (read (codes "- a\n\n  # b\n") ≡ None)
    -- code with words after its fence, code without an end, and code with a line of as many backquotes
    × (read (codes "```a\nb\n```\n") ≡ None)
    × (read (codes "```\na\n") ≡ None)
    × (read (codes "```\na```\n```\n") ≡ None)
    -- code with a carriage return, and with a NUL
    × (read (codes "```\na" ++ (13 ∷ codes "b\n```\n")) ≡ None)
    × (read (codes "```\n" ++ (0 ∷ codes "\n```\n")) ≡ None)
    -- emphasis, HTML, references and images
    × (read (codes "*a*\n") ≡ None)
    × (read (codes "_a_\n") ≡ None)
    × (read (codes "a__b\n") ≡ None)
    × (read (codes "<b>\n") ≡ None)
    × (read (codes "&amp;\n") ≡ None)
    × (read (codes "&#65;\n") ≡ None)
    × (read (codes "![a](b.md)\n") ≡ None)
    -- brackets that are not a link, and one that defines a link
    × (read (codes "[a]\n") ≡ None)
    × (read (codes "a]\n") ≡ None)
    × (read (codes "[a]: b\n") ≡ None)
    × (read (codes "[`a]: b`](c.md)\n") ≡ None)
    -- a backslash before a letter, and a span without an end
    × (read (codes "\\a\n") ≡ None)
    × (read (codes "`a\n") ≡ None)
    -- a tab
    × (read (codes "a\tb\n") ≡ None)
refuses = (refl, refl, refl, refl, refl, refl, refl, refl, refl, refl, refl, refl, refl, refl, refl, refl, refl, refl, refl, refl, refl, refl, refl, refl, refl, refl, refl, refl, refl, refl, refl, refl, refl, refl, refl, refl, refl, refl)
