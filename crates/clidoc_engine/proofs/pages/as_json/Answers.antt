use Rattle.clidoc_engine.proofs.Made.{a_json_text}
use Rattle.clidoc_engine.proofs.pages.as_json.Goals as goal

pub returns-clause-page : goal.returns-clause-page
returns-clause-page g c = a_json_text _ c.in_ok-json_text.field-0 c.in_ok-json_text.ensures.text c.in_ok-json_text.ensures.reads_back
