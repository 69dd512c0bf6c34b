-- Computed: what the worked history says, computed with all its digests.
use Rattle.std.proofs.Common.{refl, []}
use Rattle.sha2.specs.Sha256.{compress, digest_bytes, first_words, hash_after, rounds, schedule, sha256}
use Rattle.definitions.specs.World.{cells_in, row_of}
use Rattle.definitions.specs.Walk.{stepped, walked}
use Rattle.definitions.specs.Sphere.{spread}
use Rattle.definitions.specs.Moves.{is_legal}
use Rattle.definitions.specs.Openings.{cell_bytes, commitment, move_bytes, opening}
use Rattle.definitions.specs.Places.{commit_place, reveal_place, slot_at}
use Rattle.definitions.specs.Logs.{chosen, got_of, made}
use Rattle.definitions.specs.Held.{digest_of, known, known_to, next_known}
use Rattle.definitions.specs.Meets.{meets}
use Rattle.definitions.specs.Findings.{are_illegal, finding_at, findings, findings_in, first_pair, is_clean, show_kind, sightings, sightings_from}
use Rattle.definitions.specs.Answers.{is_far, is_same, place_of}
use Rattle.definitions.specs.Honest.{allows, allows_choice, allows_frame, may_commit, may_reveal, others}
use Rattle.definitions.specs.Needs.{may_choose, needs}
use Rattle.definitions.specs.Advance.{next_made}
use Rattle.commitment.specs.Spelling.{frame_bytes, turn_frame_of}
use Rattle.wire_frames.specs.Spelling.{spelling}
use Rattle.wire_frames.specs.Fronts.{bad_place, frame_of, good_front, front_of}
use Rattle.wire_frames.specs.Reading.{fed_step}
use Rattle.session_log.specs.Spelling.{entry_text, body_of}
use Rattle.session_log.specs.Entries.{entry_of, chose_of}
use Rattle.wire_frames.specs.Streams.{stream_of}
use Rattle.loop_laws.specs.Worked.{BringsItsFrames, GivesItsFrames, HandlesItsFrames, CountsWhatIsAskedFor}

pub brings_its_frames : BringsItsFrames
unfolding BringsItsFrames stream_of sha256 digest_bytes hash_after compress rounds schedule first_words cells_in row_of walked stepped spread is_legal opening commitment cell_bytes move_bytes commit_place reveal_place slot_at known known_to next_known digest_of made got_of chosen meets findings findings_in finding_at first_pair show_kind sightings sightings_from is_clean are_illegal others may_reveal may_commit allows allows_frame allows_choice needs may_choose next_made is_far is_same place_of frame_bytes turn_frame_of spelling bad_place frame_of good_front front_of fed_step entry_text body_of entry_of chose_of
brings_its_frames = (refl, refl)

pub gives_its_frames : GivesItsFrames
unfolding GivesItsFrames stream_of sha256 digest_bytes hash_after compress rounds schedule first_words cells_in row_of walked stepped spread is_legal opening commitment cell_bytes move_bytes commit_place reveal_place slot_at known known_to next_known digest_of made got_of chosen meets findings findings_in finding_at first_pair show_kind sightings sightings_from is_clean are_illegal others may_reveal may_commit allows allows_frame allows_choice needs may_choose next_made is_far is_same place_of frame_bytes turn_frame_of spelling bad_place frame_of good_front front_of fed_step entry_text body_of entry_of chose_of
gives_its_frames = refl

pub handles_its_frames : HandlesItsFrames
unfolding HandlesItsFrames stream_of sha256 digest_bytes hash_after compress rounds schedule first_words cells_in row_of walked stepped spread is_legal opening commitment cell_bytes move_bytes commit_place reveal_place slot_at known known_to next_known digest_of made got_of chosen meets findings findings_in finding_at first_pair show_kind sightings sightings_from is_clean are_illegal others may_reveal may_commit allows allows_frame allows_choice needs may_choose next_made is_far is_same place_of frame_bytes turn_frame_of spelling bad_place frame_of good_front front_of fed_step entry_text body_of entry_of chose_of
handles_its_frames = (([], refl, refl, refl), refl)

pub counts_what_is_asked_for : CountsWhatIsAskedFor
unfolding CountsWhatIsAskedFor stream_of sha256 digest_bytes hash_after compress rounds schedule first_words cells_in row_of walked stepped spread is_legal opening commitment cell_bytes move_bytes commit_place reveal_place slot_at known known_to next_known digest_of made got_of chosen meets findings findings_in finding_at first_pair show_kind sightings sightings_from is_clean are_illegal others may_reveal may_commit allows allows_frame allows_choice needs may_choose next_made is_far is_same place_of frame_bytes turn_frame_of spelling bad_place frame_of good_front front_of fed_step entry_text body_of entry_of chose_of
counts_what_is_asked_for = (refl, refl)
