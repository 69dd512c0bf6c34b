use Rattle.sealed_text.proofs.Found.{faults_of, found_in, read_of}
use Rattle.sealed_text.proofs.reading.read_sealed.Goals as goal

pub returns-clause-found : goal.returns-clause-found
returns-clause-found c = found_in c.args.session.now c.args.text.now c.sealed_of.result c.sealed_of.ensures

pub returns-clause-only : goal.returns-clause-only
returns-clause-only c = λ x from. read_of c.args.session.now c.args.text.now c.sealed_of.result x c.sealed_of.ensures from

pub returns-clause-exact : goal.returns-clause-exact
returns-clause-exact c = faults_of c.args.session.now c.args.text.now c.sealed_of.result c.sealed_of.ensures
