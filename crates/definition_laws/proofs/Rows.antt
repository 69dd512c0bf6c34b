-- Rows: the worked examples, computed with all their digests.
use Rattle.std.proofs.Common.{refl}
use Rattle.sha2.specs.Sha256.{compress, digest_bytes, first_words, hash_after, rounds, schedule, sha256}
use Rattle.definitions.specs.World.{cells_in, row_of}
use Rattle.definitions.specs.Walk.{stepped, walked}
use Rattle.definitions.specs.Sphere.{spread}
use Rattle.definitions.specs.Moves.{is_legal}
use Rattle.definitions.specs.Openings.{cell_bytes, commitment, move_bytes, opening}
use Rattle.definitions.specs.Places.{commit_place, reveal_place, slot_at}
use Rattle.definitions.specs.Logs.{chosen, got_of, made}
use Rattle.definitions.specs.Held.{digest_of, known, known_to, next_known}
use Rattle.definitions.specs.Meets.{meets}
use Rattle.definitions.specs.Findings.{are_illegal, finding_at, findings, findings_in, first_pair, is_clean, show_kind, sightings, sightings_from}
use Rattle.definitions.specs.Answers.{got_answer, is_far, is_same, place_of}
use Rattle.definitions.specs.Honest.{allows, allows_choice, allows_frame, honest_from, may_commit, may_reveal, others}
use Rattle.definitions.specs.Needs.{choice_fault, may_choose, needs}
use Rattle.definitions.specs.Advance.{advance, advance_by, next_made, progress}
use Rattle.definition_laws.specs.Rows.{BeginsWithAChoice, PlaysBlindUntilSpheresMeet, WaitsWhereSpheresMeet, GoesWhereSpheresAreApart, WallsKeepSpheresApart, RunnersAreWaitedForSooner, CommitsTwoAhead, CommitsThreeAhead, PlayersDiffer, LogsChoiceCommitmentReveal, GoesOnWhenTheOtherIsKnown, TakesAFrameOnce, StashesWhatComesEarly, CatchesTwoCommitments, CatchesBadOpenings, CatchesIllegalMoves, CatchesIllegalMovesAhead, KeepsAWindowOfEight, StrikesCostCharge, TakesCommitmentsAhead, KeepsRevealsInOrder, FindsTwoFaces, EndsDone, RefusesMovesByCause}

pub begins : BeginsWithAChoice
unfolding BeginsWithAChoice sha256 digest_bytes hash_after compress rounds schedule first_words cells_in row_of walked stepped spread is_legal opening commitment cell_bytes move_bytes commit_place reveal_place slot_at known known_to next_known digest_of made got_of chosen meets findings findings_in finding_at first_pair show_kind sightings sightings_from is_clean are_illegal others may_reveal may_commit allows allows_frame allows_choice honest_from needs may_choose choice_fault advance advance_by next_made progress got_answer is_far is_same place_of
begins = (refl, refl)

pub plays_blind : PlaysBlindUntilSpheresMeet
unfolding PlaysBlindUntilSpheresMeet sha256 digest_bytes hash_after compress rounds schedule first_words cells_in row_of walked stepped spread is_legal opening commitment cell_bytes move_bytes commit_place reveal_place slot_at known known_to next_known digest_of made got_of chosen meets findings findings_in finding_at first_pair show_kind sightings sightings_from is_clean are_illegal others may_reveal may_commit allows allows_frame allows_choice honest_from needs may_choose choice_fault advance advance_by next_made progress got_answer is_far is_same place_of
plays_blind = (refl, refl, refl)

pub waits_where_spheres_meet : WaitsWhereSpheresMeet
unfolding WaitsWhereSpheresMeet sha256 digest_bytes hash_after compress rounds schedule first_words cells_in row_of walked stepped spread is_legal opening commitment cell_bytes move_bytes commit_place reveal_place slot_at known known_to next_known digest_of made got_of chosen meets findings findings_in finding_at first_pair show_kind sightings sightings_from is_clean are_illegal others may_reveal may_commit allows allows_frame allows_choice honest_from needs may_choose choice_fault advance advance_by next_made progress got_answer is_far is_same place_of
waits_where_spheres_meet = (refl, refl, refl)

pub goes_where_apart : GoesWhereSpheresAreApart
unfolding GoesWhereSpheresAreApart sha256 digest_bytes hash_after compress rounds schedule first_words cells_in row_of walked stepped spread is_legal opening commitment cell_bytes move_bytes commit_place reveal_place slot_at known known_to next_known digest_of made got_of chosen meets findings findings_in finding_at first_pair show_kind sightings sightings_from is_clean are_illegal others may_reveal may_commit allows allows_frame allows_choice honest_from needs may_choose choice_fault advance advance_by next_made progress got_answer is_far is_same place_of
goes_where_apart = (refl, refl, refl)

pub walls_keep_apart : WallsKeepSpheresApart
unfolding WallsKeepSpheresApart sha256 digest_bytes hash_after compress rounds schedule first_words cells_in row_of walked stepped spread is_legal opening commitment cell_bytes move_bytes commit_place reveal_place slot_at known known_to next_known digest_of made got_of chosen meets findings findings_in finding_at first_pair show_kind sightings sightings_from is_clean are_illegal others may_reveal may_commit allows allows_frame allows_choice honest_from needs may_choose choice_fault advance advance_by next_made progress got_answer is_far is_same place_of
walls_keep_apart = (refl, refl)

pub runners : RunnersAreWaitedForSooner
unfolding RunnersAreWaitedForSooner sha256 digest_bytes hash_after compress rounds schedule first_words cells_in row_of walked stepped spread is_legal opening commitment cell_bytes move_bytes commit_place reveal_place slot_at known known_to next_known digest_of made got_of chosen meets findings findings_in finding_at first_pair show_kind sightings sightings_from is_clean are_illegal others may_reveal may_commit allows allows_frame allows_choice honest_from needs may_choose choice_fault advance advance_by next_made progress got_answer is_far is_same place_of
runners = (refl, refl)

pub two_ahead : CommitsTwoAhead
unfolding CommitsTwoAhead sha256 digest_bytes hash_after compress rounds schedule first_words cells_in row_of walked stepped spread is_legal opening commitment cell_bytes move_bytes commit_place reveal_place slot_at known known_to next_known digest_of made got_of chosen meets findings findings_in finding_at first_pair show_kind sightings sightings_from is_clean are_illegal others may_reveal may_commit allows allows_frame allows_choice honest_from needs may_choose choice_fault advance advance_by next_made progress got_answer is_far is_same place_of
two_ahead = (refl, refl, refl)

pub three_ahead : CommitsThreeAhead
unfolding CommitsThreeAhead sha256 digest_bytes hash_after compress rounds schedule first_words cells_in row_of walked stepped spread is_legal opening commitment cell_bytes move_bytes commit_place reveal_place slot_at known known_to next_known digest_of made got_of chosen meets findings findings_in finding_at first_pair show_kind sightings sightings_from is_clean are_illegal others may_reveal may_commit allows allows_frame allows_choice honest_from needs may_choose choice_fault advance advance_by next_made progress got_answer is_far is_same place_of
three_ahead = (refl, refl, refl, refl, refl)

pub players_differ : PlayersDiffer
unfolding PlayersDiffer sha256 digest_bytes hash_after compress rounds schedule first_words cells_in row_of walked stepped spread is_legal opening commitment cell_bytes move_bytes commit_place reveal_place slot_at known known_to next_known digest_of made got_of chosen meets findings findings_in finding_at first_pair show_kind sightings sightings_from is_clean are_illegal others may_reveal may_commit allows allows_frame allows_choice honest_from needs may_choose choice_fault advance advance_by next_made progress got_answer is_far is_same place_of
players_differ = (refl, refl, refl, refl, refl, refl, refl, refl, refl, refl)

pub logs_choice : LogsChoiceCommitmentReveal
unfolding LogsChoiceCommitmentReveal sha256 digest_bytes hash_after compress rounds schedule first_words cells_in row_of walked stepped spread is_legal opening commitment cell_bytes move_bytes commit_place reveal_place slot_at known known_to next_known digest_of made got_of chosen meets findings findings_in finding_at first_pair show_kind sightings sightings_from is_clean are_illegal others may_reveal may_commit allows allows_frame allows_choice honest_from needs may_choose choice_fault advance advance_by next_made progress got_answer is_far is_same place_of
logs_choice = refl

pub goes_on_when_known : GoesOnWhenTheOtherIsKnown
unfolding GoesOnWhenTheOtherIsKnown sha256 digest_bytes hash_after compress rounds schedule first_words cells_in row_of walked stepped spread is_legal opening commitment cell_bytes move_bytes commit_place reveal_place slot_at known known_to next_known digest_of made got_of chosen meets findings findings_in finding_at first_pair show_kind sightings sightings_from is_clean are_illegal others may_reveal may_commit allows allows_frame allows_choice honest_from needs may_choose choice_fault advance advance_by next_made progress got_answer is_far is_same place_of
goes_on_when_known = (refl, refl, refl)

pub takes_once : TakesAFrameOnce
unfolding TakesAFrameOnce sha256 digest_bytes hash_after compress rounds schedule first_words cells_in row_of walked stepped spread is_legal opening commitment cell_bytes move_bytes commit_place reveal_place slot_at known known_to next_known digest_of made got_of chosen meets findings findings_in finding_at first_pair show_kind sightings sightings_from is_clean are_illegal others may_reveal may_commit allows allows_frame allows_choice honest_from needs may_choose choice_fault advance advance_by next_made progress got_answer is_far is_same place_of
takes_once = (refl, refl, refl)

pub stashes_early : StashesWhatComesEarly
unfolding StashesWhatComesEarly sha256 digest_bytes hash_after compress rounds schedule first_words cells_in row_of walked stepped spread is_legal opening commitment cell_bytes move_bytes commit_place reveal_place slot_at known known_to next_known digest_of made got_of chosen meets findings findings_in finding_at first_pair show_kind sightings sightings_from is_clean are_illegal others may_reveal may_commit allows allows_frame allows_choice honest_from needs may_choose choice_fault advance advance_by next_made progress got_answer is_far is_same place_of
stashes_early = (refl, refl, refl, refl)

pub catches_two_commitments : CatchesTwoCommitments
unfolding CatchesTwoCommitments sha256 digest_bytes hash_after compress rounds schedule first_words cells_in row_of walked stepped spread is_legal opening commitment cell_bytes move_bytes commit_place reveal_place slot_at known known_to next_known digest_of made got_of chosen meets findings findings_in finding_at first_pair show_kind sightings sightings_from is_clean are_illegal others may_reveal may_commit allows allows_frame allows_choice honest_from needs may_choose choice_fault advance advance_by next_made progress got_answer is_far is_same place_of
catches_two_commitments = (refl, refl, refl)

pub catches_bad_openings : CatchesBadOpenings
unfolding CatchesBadOpenings sha256 digest_bytes hash_after compress rounds schedule first_words cells_in row_of walked stepped spread is_legal opening commitment cell_bytes move_bytes commit_place reveal_place slot_at known known_to next_known digest_of made got_of chosen meets findings findings_in finding_at first_pair show_kind sightings sightings_from is_clean are_illegal others may_reveal may_commit allows allows_frame allows_choice honest_from needs may_choose choice_fault advance advance_by next_made progress got_answer is_far is_same place_of
catches_bad_openings = (refl, refl)

pub catches_illegal : CatchesIllegalMoves
unfolding CatchesIllegalMoves sha256 digest_bytes hash_after compress rounds schedule first_words cells_in row_of walked stepped spread is_legal opening commitment cell_bytes move_bytes commit_place reveal_place slot_at known known_to next_known digest_of made got_of chosen meets findings findings_in finding_at first_pair show_kind sightings sightings_from is_clean are_illegal others may_reveal may_commit allows allows_frame allows_choice honest_from needs may_choose choice_fault advance advance_by next_made progress got_answer is_far is_same place_of
catches_illegal = (refl, refl, refl)

pub catches_illegal_ahead : CatchesIllegalMovesAhead
unfolding CatchesIllegalMovesAhead sha256 digest_bytes hash_after compress rounds schedule first_words cells_in row_of walked stepped spread is_legal opening commitment cell_bytes move_bytes commit_place reveal_place slot_at known known_to next_known digest_of made got_of chosen meets findings findings_in finding_at first_pair show_kind sightings sightings_from is_clean are_illegal others may_reveal may_commit allows allows_frame allows_choice honest_from needs may_choose choice_fault advance advance_by next_made progress got_answer is_far is_same place_of
catches_illegal_ahead = (refl, refl, refl, refl)

pub window_of_eight : KeepsAWindowOfEight
unfolding KeepsAWindowOfEight sha256 digest_bytes hash_after compress rounds schedule first_words cells_in row_of walked stepped spread is_legal opening commitment cell_bytes move_bytes commit_place reveal_place slot_at known known_to next_known digest_of made got_of chosen meets findings findings_in finding_at first_pair show_kind sightings sightings_from is_clean are_illegal others may_reveal may_commit allows allows_frame allows_choice honest_from needs may_choose choice_fault advance advance_by next_made progress got_answer is_far is_same place_of
window_of_eight = (refl, refl, refl)

pub strikes_cost : StrikesCostCharge
unfolding StrikesCostCharge sha256 digest_bytes hash_after compress rounds schedule first_words cells_in row_of walked stepped spread is_legal opening commitment cell_bytes move_bytes commit_place reveal_place slot_at known known_to next_known digest_of made got_of chosen meets findings findings_in finding_at first_pair show_kind sightings sightings_from is_clean are_illegal others may_reveal may_commit allows allows_frame allows_choice honest_from needs may_choose choice_fault advance advance_by next_made progress got_answer is_far is_same place_of
strikes_cost = (refl, refl, refl, refl)

pub takes_ahead : TakesCommitmentsAhead
unfolding TakesCommitmentsAhead sha256 digest_bytes hash_after compress rounds schedule first_words cells_in row_of walked stepped spread is_legal opening commitment cell_bytes move_bytes commit_place reveal_place slot_at known known_to next_known digest_of made got_of chosen meets findings findings_in finding_at first_pair show_kind sightings sightings_from is_clean are_illegal others may_reveal may_commit allows allows_frame allows_choice honest_from needs may_choose choice_fault advance advance_by next_made progress got_answer is_far is_same place_of
takes_ahead = (refl, refl, refl)

pub reveals_in_order : KeepsRevealsInOrder
unfolding KeepsRevealsInOrder sha256 digest_bytes hash_after compress rounds schedule first_words cells_in row_of walked stepped spread is_legal opening commitment cell_bytes move_bytes commit_place reveal_place slot_at known known_to next_known digest_of made got_of chosen meets findings findings_in finding_at first_pair show_kind sightings sightings_from is_clean are_illegal others may_reveal may_commit allows allows_frame allows_choice honest_from needs may_choose choice_fault advance advance_by next_made progress got_answer is_far is_same place_of
reveals_in_order = (refl, refl, refl, refl, refl, refl)

pub finds_two_faces : FindsTwoFaces
unfolding FindsTwoFaces sha256 digest_bytes hash_after compress rounds schedule first_words cells_in row_of walked stepped spread is_legal opening commitment cell_bytes move_bytes commit_place reveal_place slot_at known known_to next_known digest_of made got_of chosen meets findings findings_in finding_at first_pair show_kind sightings sightings_from is_clean are_illegal others may_reveal may_commit allows allows_frame allows_choice honest_from needs may_choose choice_fault advance advance_by next_made progress got_answer is_far is_same place_of
finds_two_faces = (refl, refl, refl, refl, refl)

pub ends_done : EndsDone
unfolding EndsDone sha256 digest_bytes hash_after compress rounds schedule first_words cells_in row_of walked stepped spread is_legal opening commitment cell_bytes move_bytes commit_place reveal_place slot_at known known_to next_known digest_of made got_of chosen meets findings findings_in finding_at first_pair show_kind sightings sightings_from is_clean are_illegal others may_reveal may_commit allows allows_frame allows_choice honest_from needs may_choose choice_fault advance advance_by next_made progress got_answer is_far is_same place_of
ends_done = (refl, refl, refl)

pub refuses_by_cause : RefusesMovesByCause
unfolding RefusesMovesByCause sha256 digest_bytes hash_after compress rounds schedule first_words cells_in row_of walked stepped spread is_legal opening commitment cell_bytes move_bytes commit_place reveal_place slot_at known known_to next_known digest_of made got_of chosen meets findings findings_in finding_at first_pair show_kind sightings sightings_from is_clean are_illegal others may_reveal may_commit allows allows_frame allows_choice honest_from needs may_choose choice_fault advance advance_by next_made progress got_answer is_far is_same place_of
refuses_by_cause = (refl, refl, refl, refl, refl, refl, refl, refl, refl, refl, refl)
