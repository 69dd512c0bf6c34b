use Rattle.drive_command.specs.Drive.{drive, start_text}
use Rattle.drive_command.proofs.Choices.{advance_longer}
use Rattle.drive_command.proofs.playing.play.Goals as goal

pub follow-requires : goal.follow-requires
follow-requires g c = rw (c.new-driver.ensures, c.entries-entries.ensures) (advance_longer _ _ _)

pub returns-clause-text : goal.returns-clause-text
unfolding drive start_text
returns-clause-text g c = rw (c.new-driver.ensures, c.entries-entries.ensures) at c.follow.ensures.text
