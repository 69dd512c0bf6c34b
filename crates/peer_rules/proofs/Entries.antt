-- Entries: an entry that is told to be one is that one.
use Rattle.std.proofs.Common.{◌≡◌, Bool, true, ap}
use Rattle.std.specs.Prelude.{Option, Some, None}
use Rattle.std.proofs.lemmas.Bool.{and_parts, eqb-true, false≢true}
use Rattle.definitions.specs.declared.logs.Entry.{Entry}
use Rattle.definitions.specs.declared.logs.Entry.TheVariants.{Chose, Made, Got}
use Rattle.definitions.specs.Logs.{entry_eq}
use Rattle.definition_laws.proofs.Alike.{frame_eq_true, move_eq_true, nonce_eq_true}
use Rattle.peer_rules.specs.Entries.{is_entry}

pub same_entry : (d e : Entry) → entry_eq d e ≡ true → d ≡ e
same_entry (Chose t m n) (Chose u k o) h =
    let both = and_parts _ _ h in
    let first = and_parts _ _ both.0 in
    let turn = eqb-true t u first.0 in
    let move = move_eq_true m k first.1 in
    let nonce = nonce_eq_true n o both.1 in
    cc
same_entry (Chose t m n) (Made f) h = absurd (false≢true h)
same_entry (Chose t m n) (Got q f) h = absurd (false≢true h)
same_entry (Made f) (Chose u k o) h = absurd (false≢true h)
same_entry (Made f) (Made g) h = let frame = frame_eq_true f g h in cc
same_entry (Made f) (Got q g) h = absurd (false≢true h)
same_entry (Got p f) (Chose u k o) h = absurd (false≢true h)
same_entry (Got p f) (Made g) h = absurd (false≢true h)
same_entry (Got p f) (Got q g) h =
    let both = and_parts _ _ h in
    let player = eqb-true p q both.0 in
    let frame = frame_eq_true f g both.1 in
    cc

pub entry_is : (o : Option Entry) (e : Entry) → is_entry o e ≡ true → o ≡ Some e
entry_is None e h = absurd (false≢true h)
entry_is (Some d) e h = ap (λ (x : Entry). Some x) (same_entry d e h)
