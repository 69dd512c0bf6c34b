use Rattle.definition_laws.proofs.Rows.{catches_illegal_ahead, catches_two_commitments, catches_bad_openings, catches_illegal, finds_two_faces}
use Rattle.definition_laws.proofs.worked.worked_findings.Goals as goal

pub returns-clause-commitments : goal.returns-clause-commitments
returns-clause-commitments c = catches_two_commitments

pub returns-clause-openings : goal.returns-clause-openings
returns-clause-openings c = catches_bad_openings

pub returns-clause-moves : goal.returns-clause-moves
returns-clause-moves c = catches_illegal

pub returns-clause-faces : goal.returns-clause-faces
returns-clause-faces c = finds_two_faces

pub returns-clause-moves_ahead : goal.returns-clause-moves_ahead
returns-clause-moves_ahead c = catches_illegal_ahead
