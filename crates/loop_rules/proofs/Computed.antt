-- Computed: the worked histories, computed with all their digests.
use Rattle.std.proofs.Common.{refl}
use Rattle.sha2.specs.Sha256.{compress, digest_bytes, first_words, hash_after, rounds, schedule, sha256}
use Rattle.definitions.specs.World.{cells_in, row_of}
use Rattle.definitions.specs.Walk.{stepped, walked}
use Rattle.definitions.specs.Sphere.{spread}
use Rattle.definitions.specs.Moves.{is_legal}
use Rattle.definitions.specs.Openings.{cell_bytes, commitment, move_bytes, opening}
use Rattle.definitions.specs.Places.{commit_place, reveal_place, slot_at}
use Rattle.definitions.specs.Logs.{chosen, got_of, made}
use Rattle.definitions.specs.Held.{digest_of, known, known_to, next_known}
use Rattle.definitions.specs.Meets.{meets}
use Rattle.definitions.specs.Findings.{are_illegal, finding_at, findings, findings_in, first_pair, is_clean, show_kind, sightings, sightings_from}
use Rattle.definitions.specs.Answers.{is_far, is_same, place_of}
use Rattle.definitions.specs.Honest.{allows, allows_choice, allows_frame, may_commit, may_reveal, others}
use Rattle.definitions.specs.Needs.{may_choose, needs}
use Rattle.definitions.specs.Advance.{next_made}
use Rattle.commitment.specs.Spelling.{frame_bytes, turn_frame_of}
use Rattle.wire_frames.specs.Spelling.{spelling}
use Rattle.wire_frames.specs.Fronts.{bad_place, frame_of, good_front, front_of}
use Rattle.wire_frames.specs.Reading.{fed_step}
use Rattle.session_log.specs.Spelling.{entry_text, body_of}
use Rattle.session_log.specs.Entries.{entry_of, chose_of}
use Rattle.loop_rules.specs.Worked.{BeginsByTheRules, GreetsByTheRules, TakesFramesByTheRules, RevealsByTheRules, AsksOnceForAFarFrame, ShutsForABadByte, ReadsNoMoreThanAHello, ShutsTheFormerOfOneName, EndsAtAFailedKeep, ReadsBeforeItPolls, SyncsBeforeItPolls, PollsForAReason, LeavesWhatWasSynced, GoesOnFromAnOlderLog, AnswersAHello, MovesByAWant}

pub begins_by_the_rules : BeginsByTheRules
unfolding BeginsByTheRules sha256 digest_bytes hash_after compress rounds schedule first_words cells_in row_of walked stepped spread is_legal opening commitment cell_bytes move_bytes commit_place reveal_place slot_at known known_to next_known digest_of made got_of chosen meets findings findings_in finding_at first_pair show_kind sightings sightings_from is_clean are_illegal others may_reveal may_commit allows allows_frame allows_choice needs may_choose next_made is_far is_same place_of frame_bytes turn_frame_of spelling bad_place frame_of good_front front_of fed_step entry_text body_of entry_of chose_of
begins_by_the_rules = refl

pub greets_by_the_rules : GreetsByTheRules
unfolding GreetsByTheRules sha256 digest_bytes hash_after compress rounds schedule first_words cells_in row_of walked stepped spread is_legal opening commitment cell_bytes move_bytes commit_place reveal_place slot_at known known_to next_known digest_of made got_of chosen meets findings findings_in finding_at first_pair show_kind sightings sightings_from is_clean are_illegal others may_reveal may_commit allows allows_frame allows_choice needs may_choose next_made is_far is_same place_of frame_bytes turn_frame_of spelling bad_place frame_of good_front front_of fed_step entry_text body_of entry_of chose_of
greets_by_the_rules = refl

pub takes_frames_by_the_rules : TakesFramesByTheRules
unfolding TakesFramesByTheRules sha256 digest_bytes hash_after compress rounds schedule first_words cells_in row_of walked stepped spread is_legal opening commitment cell_bytes move_bytes commit_place reveal_place slot_at known known_to next_known digest_of made got_of chosen meets findings findings_in finding_at first_pair show_kind sightings sightings_from is_clean are_illegal others may_reveal may_commit allows allows_frame allows_choice needs may_choose next_made is_far is_same place_of frame_bytes turn_frame_of spelling bad_place frame_of good_front front_of fed_step entry_text body_of entry_of chose_of
takes_frames_by_the_rules = refl

pub reveals_by_the_rules : RevealsByTheRules
unfolding RevealsByTheRules sha256 digest_bytes hash_after compress rounds schedule first_words cells_in row_of walked stepped spread is_legal opening commitment cell_bytes move_bytes commit_place reveal_place slot_at known known_to next_known digest_of made got_of chosen meets findings findings_in finding_at first_pair show_kind sightings sightings_from is_clean are_illegal others may_reveal may_commit allows allows_frame allows_choice needs may_choose next_made is_far is_same place_of frame_bytes turn_frame_of spelling bad_place frame_of good_front front_of fed_step entry_text body_of entry_of chose_of
reveals_by_the_rules = refl

pub asks_once_for_a_far_frame : AsksOnceForAFarFrame
unfolding AsksOnceForAFarFrame sha256 digest_bytes hash_after compress rounds schedule first_words cells_in row_of walked stepped spread is_legal opening commitment cell_bytes move_bytes commit_place reveal_place slot_at known known_to next_known digest_of made got_of chosen meets findings findings_in finding_at first_pair show_kind sightings sightings_from is_clean are_illegal others may_reveal may_commit allows allows_frame allows_choice needs may_choose next_made is_far is_same place_of frame_bytes turn_frame_of spelling bad_place frame_of good_front front_of fed_step entry_text body_of entry_of chose_of
asks_once_for_a_far_frame = (refl, refl, refl)

pub shuts_for_a_bad_byte : ShutsForABadByte
unfolding ShutsForABadByte sha256 digest_bytes hash_after compress rounds schedule first_words cells_in row_of walked stepped spread is_legal opening commitment cell_bytes move_bytes commit_place reveal_place slot_at known known_to next_known digest_of made got_of chosen meets findings findings_in finding_at first_pair show_kind sightings sightings_from is_clean are_illegal others may_reveal may_commit allows allows_frame allows_choice needs may_choose next_made is_far is_same place_of frame_bytes turn_frame_of spelling bad_place frame_of good_front front_of fed_step entry_text body_of entry_of chose_of
shuts_for_a_bad_byte = (refl, refl, refl)

pub reads_no_more_than_a_hello : ReadsNoMoreThanAHello
unfolding ReadsNoMoreThanAHello sha256 digest_bytes hash_after compress rounds schedule first_words cells_in row_of walked stepped spread is_legal opening commitment cell_bytes move_bytes commit_place reveal_place slot_at known known_to next_known digest_of made got_of chosen meets findings findings_in finding_at first_pair show_kind sightings sightings_from is_clean are_illegal others may_reveal may_commit allows allows_frame allows_choice needs may_choose next_made is_far is_same place_of frame_bytes turn_frame_of spelling bad_place frame_of good_front front_of fed_step entry_text body_of entry_of chose_of
reads_no_more_than_a_hello = (refl, refl)

pub shuts_the_former_of_one_name : ShutsTheFormerOfOneName
unfolding ShutsTheFormerOfOneName sha256 digest_bytes hash_after compress rounds schedule first_words cells_in row_of walked stepped spread is_legal opening commitment cell_bytes move_bytes commit_place reveal_place slot_at known known_to next_known digest_of made got_of chosen meets findings findings_in finding_at first_pair show_kind sightings sightings_from is_clean are_illegal others may_reveal may_commit allows allows_frame allows_choice needs may_choose next_made is_far is_same place_of frame_bytes turn_frame_of spelling bad_place frame_of good_front front_of fed_step entry_text body_of entry_of chose_of
shuts_the_former_of_one_name = (refl, refl, refl)

pub ends_at_a_failed_keep : EndsAtAFailedKeep
unfolding EndsAtAFailedKeep sha256 digest_bytes hash_after compress rounds schedule first_words cells_in row_of walked stepped spread is_legal opening commitment cell_bytes move_bytes commit_place reveal_place slot_at known known_to next_known digest_of made got_of chosen meets findings findings_in finding_at first_pair show_kind sightings sightings_from is_clean are_illegal others may_reveal may_commit allows allows_frame allows_choice needs may_choose next_made is_far is_same place_of frame_bytes turn_frame_of spelling bad_place frame_of good_front front_of fed_step entry_text body_of entry_of chose_of
ends_at_a_failed_keep = (refl, refl, refl)

pub reads_before_it_polls : ReadsBeforeItPolls
unfolding ReadsBeforeItPolls sha256 digest_bytes hash_after compress rounds schedule first_words cells_in row_of walked stepped spread is_legal opening commitment cell_bytes move_bytes commit_place reveal_place slot_at known known_to next_known digest_of made got_of chosen meets findings findings_in finding_at first_pair show_kind sightings sightings_from is_clean are_illegal others may_reveal may_commit allows allows_frame allows_choice needs may_choose next_made is_far is_same place_of frame_bytes turn_frame_of spelling bad_place frame_of good_front front_of fed_step entry_text body_of entry_of chose_of
reads_before_it_polls = (refl, refl, refl)

pub syncs_before_it_polls : SyncsBeforeItPolls
unfolding SyncsBeforeItPolls sha256 digest_bytes hash_after compress rounds schedule first_words cells_in row_of walked stepped spread is_legal opening commitment cell_bytes move_bytes commit_place reveal_place slot_at known known_to next_known digest_of made got_of chosen meets findings findings_in finding_at first_pair show_kind sightings sightings_from is_clean are_illegal others may_reveal may_commit allows allows_frame allows_choice needs may_choose next_made is_far is_same place_of frame_bytes turn_frame_of spelling bad_place frame_of good_front front_of fed_step entry_text body_of entry_of chose_of
syncs_before_it_polls = (refl, refl, refl)

pub polls_for_a_reason : PollsForAReason
unfolding PollsForAReason sha256 digest_bytes hash_after compress rounds schedule first_words cells_in row_of walked stepped spread is_legal opening commitment cell_bytes move_bytes commit_place reveal_place slot_at known known_to next_known digest_of made got_of chosen meets findings findings_in finding_at first_pair show_kind sightings sightings_from is_clean are_illegal others may_reveal may_commit allows allows_frame allows_choice needs may_choose next_made is_far is_same place_of frame_bytes turn_frame_of spelling bad_place frame_of good_front front_of fed_step entry_text body_of entry_of chose_of
polls_for_a_reason = (refl, refl, refl)

pub leaves_what_was_synced : LeavesWhatWasSynced
unfolding LeavesWhatWasSynced sha256 digest_bytes hash_after compress rounds schedule first_words cells_in row_of walked stepped spread is_legal opening commitment cell_bytes move_bytes commit_place reveal_place slot_at known known_to next_known digest_of made got_of chosen meets findings findings_in finding_at first_pair show_kind sightings sightings_from is_clean are_illegal others may_reveal may_commit allows allows_frame allows_choice needs may_choose next_made is_far is_same place_of frame_bytes turn_frame_of spelling bad_place frame_of good_front front_of fed_step entry_text body_of entry_of chose_of
leaves_what_was_synced = (refl, refl, refl, refl, refl, refl)

pub goes_on_from_an_older_log : GoesOnFromAnOlderLog
unfolding GoesOnFromAnOlderLog sha256 digest_bytes hash_after compress rounds schedule first_words cells_in row_of walked stepped spread is_legal opening commitment cell_bytes move_bytes commit_place reveal_place slot_at known known_to next_known digest_of made got_of chosen meets findings findings_in finding_at first_pair show_kind sightings sightings_from is_clean are_illegal others may_reveal may_commit allows allows_frame allows_choice needs may_choose next_made is_far is_same place_of frame_bytes turn_frame_of spelling bad_place frame_of good_front front_of fed_step entry_text body_of entry_of chose_of
goes_on_from_an_older_log = (refl, refl, refl)

pub answers_a_hello : AnswersAHello
unfolding AnswersAHello sha256 digest_bytes hash_after compress rounds schedule first_words cells_in row_of walked stepped spread is_legal opening commitment cell_bytes move_bytes commit_place reveal_place slot_at known known_to next_known digest_of made got_of chosen meets findings findings_in finding_at first_pair show_kind sightings sightings_from is_clean are_illegal others may_reveal may_commit allows allows_frame allows_choice needs may_choose next_made is_far is_same place_of frame_bytes turn_frame_of spelling bad_place frame_of good_front front_of fed_step entry_text body_of entry_of chose_of
answers_a_hello = (refl, refl)

pub moves_by_a_want : MovesByAWant
unfolding MovesByAWant sha256 digest_bytes hash_after compress rounds schedule first_words cells_in row_of walked stepped spread is_legal opening commitment cell_bytes move_bytes commit_place reveal_place slot_at known known_to next_known digest_of made got_of chosen meets findings findings_in finding_at first_pair show_kind sightings sightings_from is_clean are_illegal others may_reveal may_commit allows allows_frame allows_choice needs may_choose next_made is_far is_same place_of frame_bytes turn_frame_of spelling bad_place frame_of good_front front_of fed_step entry_text body_of entry_of chose_of
moves_by_a_want = (refl, refl, refl)
