use Rattle.evidence.proofs.Found.{found_in, read_of, faults_of}
use Rattle.evidence.proofs.reading.read_exhibit.Goals as goal

pub returns-clause-found : goal.returns-clause-found
returns-clause-found c = found_in c.args.text.now c.exhibit_of.result c.exhibit_of.ensures

pub returns-clause-only : goal.returns-clause-only
returns-clause-only c = λ x from. read_of c.args.text.now c.exhibit_of.result x c.exhibit_of.ensures from

pub returns-clause-exact : goal.returns-clause-exact
returns-clause-exact c = faults_of c.args.text.now c.exhibit_of.result c.exhibit_of.ensures
