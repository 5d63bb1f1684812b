use Rattle.text.proofs.UncutLaws.{word_says}
use Rattle.text.proofs.part.Part.uncut_field.Goals as goal

pub returns-in-None-clause-says : goal.returns-in-None-clause-says
returns-in-None-clause-says c = word_says _ _ _ c.in-None.ensures c.bytes.ensures
