use Rattle.std.proofs.Common.{ℕ, List, ◌<◌, ◌+◌, length, subst, arith, ◌≡◌}
use Rattle.definitions.specs.declared.logs.Entry.{Entry}
use Rattle.definitions.specs.Lists.{EachIs}
use Rattle.peer_window.specs.Logged.{received_from}
use Rattle.peer_window.proofs.Tied.{received_another, received_below, received_one_more}
use Rattle.peer_window.proofs.laws.received_grows.Goals as goal

below : (q : ℕ) (h : List Entry) → EachIs (λ r. r.entry < length h) (received_from q 0 h)
below q h =
    let P : ℕ → Type 0 = λ n. EachIs (λ r. r.entry < n) (received_from q 0 h) in
    let same : 0 + length h ≡ length h = omega arith in subst P same (received_below q 0 h)

pub returns-clause-below : goal.returns-clause-below
returns-clause-below c = below

pub returns-clause-one_more : goal.returns-clause-one_more
returns-clause-one_more c = received_one_more

pub returns-clause-another : goal.returns-clause-another
returns-clause-another c = received_another
