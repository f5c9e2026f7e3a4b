use Rattle.html_page.proofs.parts.put_part.Goals as goal

pub returns-in-Heading-clause-put : goal.returns-in-Heading-clause-put
returns-in-Heading-clause-put g c = rw c.in-Heading.is c.put_heading.ensures.put
