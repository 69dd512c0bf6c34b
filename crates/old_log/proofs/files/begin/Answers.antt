use Rattle.std.proofs.Common.{◌≡◌, ◌<◌, true, inr, refl, arith, nat_lt}
use Rattle.std.proofs.lemmas.Grind.{common_steps}
use Rattle.definitions.specs.World.{players_of}
use Rattle.old_log.proofs.files.begin.Goals as goal

pub returns-in-Some : goal.returns-in-Some
returns-in-Some g c =
    let in_it : c.args.player < players_of c.args.session.now = grind (arith, common_steps) in
    let seated : nat_lt c.args.player (players_of c.args.session.now) ≡ true = grind (arith, common_steps) in
    rw c.in-Some.is
    (record {
      fetches = inr (c.in-Some.name.now, refl, in_it, c.begin_with_file.ensures.fetched);
      due = λ content h. rw seated (c.begin_with_file.ensures.due content h);
    })
