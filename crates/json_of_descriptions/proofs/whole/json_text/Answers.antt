use Rattle.description.specs.View.{description_said}
use Rattle.json_of_descriptions.specs.Descriptions.{json_of}
use Rattle.json_of_descriptions.proofs.ReadBack.{read_back, text_is}
use Rattle.json_of_descriptions.proofs.whole.json_text.Goals as goal

pub returns-clause-text : goal.returns-clause-text
returns-clause-text g c = text_is c.finished.result c.into_inner.result.items _ (json_of (description_said c.args.description.now)) c.into_inner.ensures.layout c.in_ok-out.ensures c.finished.ensures

pub returns-clause-reads_back : goal.returns-clause-reads_back
returns-clause-reads_back g c = read_back c.finished.result c.into_inner.result.items _ (json_of (description_said c.args.description.now)) c.into_inner.ensures.value c.in_ok-out.ensures c.finished.ensures
