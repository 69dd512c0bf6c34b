use Rattle.pilots.proofs.Scripts.{faults_of, found_in, read_of}
use Rattle.pilots.proofs.script.ScriptPilot.read.Goals as goal

pub returns-clause-found : goal.returns-clause-found
returns-clause-found c = found_in c.args.session.now.turns c.args.text.now c.script_of.result c.script_of.ensures

pub returns-clause-only : goal.returns-clause-only
returns-clause-only c = λ moves from. read_of c.args.session.now.turns c.args.text.now c.script_of.result moves c.script_of.ensures from

pub returns-clause-exact : goal.returns-clause-exact
returns-clause-exact c = faults_of c.args.session.now.turns c.args.text.now c.script_of.result c.script_of.ensures
