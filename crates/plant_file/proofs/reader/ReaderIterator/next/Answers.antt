use mathlib.Core.Path.{refl}
use Rattle.plant_file.proofs.Walks.{reads-on}
use Rattle.plant_file.proofs.reader.ReaderIterator.next.Goals as goal

pub returns-clause-goes : goal.returns-clause-goes
returns-clause-goes c = reads-on (λ r. tt) _ _ record { gives = c.link_at-link.ensures; moves = c.next_index-self.ensures; keeps = refl }
