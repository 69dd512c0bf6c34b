use Rattle.grid_world.proofs.Found.{found_in, read_of, faults_of}
use Rattle.grid_world.proofs.reading.read_session.Goals as goal

pub returns-clause-found : goal.returns-clause-found
returns-clause-found c = found_in c.args.text.now c.session_of.result c.session_of.ensures.said

pub returns-clause-only : goal.returns-clause-only
returns-clause-only c = λ game from. read_of c.args.text.now c.session_of.result game c.session_of.ensures.said from

pub returns-clause-exact : goal.returns-clause-exact
returns-clause-exact c = faults_of c.args.text.now c.session_of.result c.session_of.ensures.said
