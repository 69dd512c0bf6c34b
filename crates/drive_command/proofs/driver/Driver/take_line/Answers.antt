use Rattle.std.proofs.Common.{arith, refl}
use Rattle.drive_command.proofs.Choices.{choice_longer, got_longer}
use Rattle.drive_command.proofs.LineOutcomes.{answered, brought, passed_over, printed, received, scored}
use Rattle.drive_command.proofs.driver.Driver.take_line.Goals as goal

pub returns-in-Nothing : goal.returns-in-Nothing
returns-in-Nothing c =
    let few = c.in-Nothing.ensures.few in
    record {
      answers = λ input. rw c.count.ensures.after (passed_over _ _ _ _ _ input c.requires.clean c.in-Nothing.ensures.value);
      counts = rw c.count.ensures.after (refl, omega (arith, few), tt);
    }

pub returns-in-Choose : goal.returns-in-Choose
returns-in-Choose c =
    let few = c.in-Choose.ensures.few in
    record {
      answers = λ input. rw (c.choose.ensures.answer, c.choose.ensures.after, c.count.ensures.after) (answered _ _ _ _ _ input _ _ c.requires.clean c.in-Choose.ensures.value);
      counts = rw (c.choose.ensures.answer, c.choose.ensures.after, c.count.ensures.after) (refl, omega (arith, few), choice_longer _ _ _ _ _);
    }

pub returns-in-Got : goal.returns-in-Got
returns-in-Got c =
    let few = c.in-Got.ensures.few in
    record {
      answers = λ input. rw (c.receive.ensures.place, c.receive.ensures.answer, c.receive.ensures.entries, c.receive.ensures.after, c.count.ensures.after) (received _ _ _ _ _ input _ _ c.requires.clean c.in-Got.ensures.value);
      counts = rw (c.receive.ensures.entries, c.receive.ensures.after, c.count.ensures.after) (refl, omega (arith, few), got_longer _ _ _ c.in-Got.from c.in-Got.frame);
    }

pub returns-in-Bytes : goal.returns-in-Bytes
returns-in-Bytes c =
    let few = c.in-Bytes.ensures.few in
    let known = c.in-Bytes.ensures.known in
    let room = c.count.ensures.few c.in-Bytes.from in
    record {
      answers = λ input. rw c.count.ensures.after (brought _ _ _ _ _ input _ _ c.requires.clean c.in-Bytes.ensures.value);
      counts = (
        rw c.count.ensures.after refl,
        rw c.count.ensures.after (omega (arith, few)),
        record {
          known = omega (arith, known.0);
          clean = rw c.count.ensures.after c.requires.clean;
          few = omega (arith, room, known.1);
        },
      );
    }

pub returns-in-Score : goal.returns-in-Score
returns-in-Score c =
    let few = c.in-Score.ensures.few in
    record {
      answers = λ input. rw c.count.ensures.after (scored _ _ _ _ _ input c.requires.clean c.in-Score.ensures.value);
      counts = rw c.count.ensures.after (refl, omega (arith, few), tt);
    }

pub returns-in-Log : goal.returns-in-Log
returns-in-Log c =
    let few = c.in-Log.ensures.few in
    record {
      answers = λ input. rw c.count.ensures.after (printed _ _ _ _ _ input c.requires.clean c.in-Log.ensures.value);
      counts = rw c.count.ensures.after (refl, omega (arith, few), tt);
    }
