-- Marks: logs grow by what is called, and the marks stay where they stand.
use Rattle.std.proofs.Common.{◌≡◌, ℕ, zero, suc, ◌+◌, ◌*◌, ◌≤◌, Bool, true, false, List, [], ◌∷◌, ◌++◌, length, refl, sym, ap, ◌∙◌, subst, append_assoc, append-nil, arith, ◌<◌, inl, inr}
use Rattle.std.specs.Prelude.{Option, Some, None, if◌then◌else◌}
use Rattle.definitions.specs.declared.logs.Entry.{Entry}
use Rattle.definitions.specs.declared.logs.Entry.TheVariants.{Made, Chose, Got}
use Rattle.definitions.specs.declared.answers.OwnFault.{OwnFault}
use Rattle.definitions.specs.declared.frames.TurnFrame.{TurnFrame}
use Rattle.definitions.specs.declared.world.Move.{Move}
use Rattle.definitions.specs.World.{Game}
use Rattle.definitions.specs.Logs.{chosen}
use Rattle.definitions.specs.Steps.{is_taken_in}
use Rattle.definitions.specs.Advance.{advance, advance_by, next_made, with_made}
use Rattle.peer_core.specs.Views.{PeerState, with_got}
use Rattle.wire_frames.specs.declared.frames.FedWhat.{FedWhat}
use Rattle.wire_frames.specs.declared.frames.FedWhat.TheVariants.{More, Whole, Bad}
use Rattle.wire_frames.specs.declared.frames.Frame.TheVariants.{Hello, Turn, Want}
use Rattle.lethwyrn_c.specs.declared.mark.Mark.{Mark}
use Rattle.lethwyrn_c.specs.Calls.{with_choice}
use Rattle.lethwyrn_c.specs.Heard.{heard}
use Rattle.lethwyrn_c.specs.Marks.{AreMarks}
use Rattle.lethwyrn_c.specs.Fronts.{front, GoesOn, StandsAt}
use Rattle.lethwyrn_c.specs.Sending.{IsEntryTaken, IsOneStored, IsStoredTo}
use Rattle.lethwyrn_c.specs.Standings.{Standing, log_front}
use Rattle.wire_frames.specs.Reading.{Reading}
use Rattle.lethwyrn_c.proofs.Fronts.{stays}

-- the second log begins with the first
pub record Grows (h g : List Entry) : Type 0 where
  pub more : List Entry
  pub grown : g ≡ h ++ more

pub not_at_all : (h : List Entry) → Grows h h
not_at_all h = record { more = []; grown = sym (append-nil h) }

then_more : (h : List Entry) (e : Entry) (g : List Entry) → Grows (h ++ e ∷ []) g → Grows h g
then_more h e g s = record { more = e ∷ s.more; grown = s.grown ∙ append_assoc h (e ∷ []) s.more }

advance_by_grows : (game : Game) (me n : ℕ) (h : List Entry) → Grows h (advance_by game me n h)
unfolding advance_by
advance_by_grows game me zero h = not_at_all h
advance_by_grows game me (suc n) h = go (next_made game me h) (λ g. advance_by_grows game me n g)
  where
    go : (o : Option TurnFrame) → ((g : List Entry) → Grows g (advance_by game me n g)) → Grows h (advance_by game me n (with_made h o))
    go None ih = ih h
    go (Some f) ih = then_more h (Made f) _ (ih (h ++ Made f ∷ []))

pub advance_grows : (game : Game) (me : ℕ) (h : List Entry) → Grows h (advance game me h)
unfolding advance
advance_grows game me h = advance_by_grows game me (2 * game.turns) h

pub choice_grows : (m : Move) (nonce : List ℕ) (p : PeerState) (o : Option OwnFault) → Grows p.entries (with_choice m nonce p o)
choice_grows m nonce p None = record { more = Chose (length (chosen p.me p.entries)) m (record { bytes = nonce }) ∷ []; grown = refl }
choice_grows m nonce p (Some fault) = not_at_all p.entries

pub got_grows : (game : Game) (me : ℕ) (h : List Entry) (q : ℕ) (f : TurnFrame) → Grows h (with_got game me h q f)
got_grows game me h q f = go (is_taken_in game me h q f)
  where
    go : (b : Bool) → Grows h (if b then h ++ Got q f ∷ [] else h)
    go true = record { more = Got q f ∷ []; grown = refl }
    go false = not_at_all h

pub heard_grows : (from : ℕ) (p : PeerState) (what : FedWhat) → Grows p.entries (heard from p what)
heard_grows from p More = not_at_all p.entries
heard_grows from p (Bad place) = not_at_all p.entries
heard_grows from p (Whole (Hello id player pass next)) = not_at_all p.entries
heard_grows from p (Whole (Want place)) = not_at_all p.entries
heard_grows from p (Whole (Turn f)) = got_grows p.game p.me p.entries from f

-- the marks of a log are those of the grown log
pub marks_stay : (p q : PeerState) (given ahead : Mark) (stored : ℕ) (es : List Entry) → q ≡ record p { entries = es } → Grows p.entries es → AreMarks p given ahead stored → AreMarks q given ahead stored
marks_stay p q given ahead stored es is g m =
    let grown : AreMarks (record p { entries = p.entries ++ g.more }) given ahead stored = record {
      given_is = stays p.game.id p.me p.entries g.more given.entries given.writer given.bytes m.given_is;
      ahead_is = stays p.game.id p.me p.entries g.more ahead.entries ahead.writer ahead.bytes m.ahead_is;
      within = m.within;
      near = m.near;
    } in
    subst (λ (r : PeerState). AreMarks r given ahead stored) (ap (λ (l : List Entry). record p { entries = l }) (sym g.grown) ∙ sym is) grown

-- the mark of what was handed out went on by an entry
pub given_on : (p : PeerState) (es : List Entry) (given next ahead : Mark) (stored : ℕ) (bytes : List ℕ) → es ≡ p.entries →
    ((id : List ℕ) (me : ℕ) → StandsAt id me es given.entries given.writer given.bytes → GoesOn id me es given.entries next.entries next.writer next.bytes bytes) →
    next.entries ≡ given.entries + 1 → AreMarks p given ahead stored → AreMarks p next ahead stored
given_on p es given next ahead stored bytes same on more m =
    let At : List Entry → Type 0 = λ l. StandsAt p.game.id p.me l given.entries given.writer given.bytes in
    let To : List Entry → Type 0 = λ l. StandsAt p.game.id p.me l next.entries next.writer next.bytes in
    let within = m.within in record {
      given_is = subst To same (on p.game.id p.me (subst At (sym same) m.given_is)).stands;
      ahead_is = m.ahead_is;
      within = omega arith;
      near = m.near;
    }

-- and these are the log's next bytes
pub entry_taken : (s : Standing) (p : PeerState) (links : List Reading) (es : List Entry) (given next ahead : Mark) (stored sent : ℕ) (bytes : List ℕ) →
    record { peer = p; links = links; given = given.entries; stored = stored; sent = sent } ≡ s → es ≡ p.entries → given.entries < length es →
    ((id : List ℕ) (me : ℕ) → StandsAt id me es given.entries given.writer given.bytes → GoesOn id me es given.entries next.entries next.writer next.bytes bytes) →
    next.entries ≡ given.entries + 1 → AreMarks p given ahead stored →
    IsEntryTaken bytes s (record { peer = p; links = links; given = next.entries; stored = stored; sent = sent })
entry_taken s p links es given next ahead stored sent bytes is same there on more m =
    let At : List Entry → Type 0 = λ l. StandsAt p.game.id p.me l given.entries given.writer given.bytes in
    let To : List Entry → Type 0 = λ l. front p.game.id p.me l (given.entries + 1) ≡ front p.game.id p.me l given.entries ++ bytes in
    let t : Standing = record { peer = p; links = links; given = next.entries; stored = stored; sent = sent } in
    let long = ap length same in
    let first : Standing = record { peer = p; links = links; given = given.entries; stored = stored; sent = sent } in
    let taken : IsEntryTaken bytes first t = record {
      goes_on = ap (λ n. record { peer = p; links = links; given = n; stored = stored; sent = sent }) more;
      there = omega arith;
      bytes_are = subst To same (on p.game.id p.me (subst At (sym same) m.given_is)).bytes_are;
    } in
    subst (λ (r : Standing). IsEntryTaken bytes r t) is taken

-- the other mark passed the next entry
pub passed_on : (p : PeerState) (es : List Entry) (given ahead next : Mark) (stored : ℕ) → es ≡ p.entries →
    ((id : List ℕ) (me : ℕ) → StandsAt id me es ahead.entries ahead.writer ahead.bytes → StandsAt id me es next.entries next.writer next.bytes) →
    next.entries ≡ stored + 1 → AreMarks p given ahead stored → AreMarks p given next stored
passed_on p es given ahead next stored same on more m =
    let At : List Entry → Type 0 = λ l. StandsAt p.game.id p.me l ahead.entries ahead.writer ahead.bytes in
    let To : List Entry → Type 0 = λ l. StandsAt p.game.id p.me l next.entries next.writer next.bytes in record {
      given_is = m.given_is;
      ahead_is = subst To same (on p.game.id p.me (subst At (sym same) m.ahead_is));
      within = m.within;
      near = inr more;
    }

-- behind which the entry counts as stored
pub one_stored : (p : PeerState) (given next : Mark) (stored : ℕ) → next.entries ≡ stored + 1 → stored < given.entries → AreMarks p given next stored → AreMarks p given next (stored + 1)
one_stored p given next stored more lt m = record { given_is = m.given_is; ahead_is = m.ahead_is; within = omega arith; near = inl more }

-- how many bytes the log has up to the next entry that isn't stored
pub next_long : (p : PeerState) (given next : Mark) (stored : ℕ) → next.entries ≡ stored + 1 → AreMarks p given next stored → next.bytes ≡ length (log_front p (stored + 1))
next_long p given next stored more m = m.ahead_is.count_is ∙ ap (λ n. length (log_front p n)) more

-- which doesn't count as stored where it ends past the bytes
pub not_stored : (s : Standing) (p : PeerState) (links : List Reading) (given next : Mark) (stored sent bytes n : ℕ) →
    record { peer = p; links = links; given = given.entries; stored = stored; sent = sent } ≡ s → next.entries ≡ stored + 1 → AreMarks p given next stored → n ≡ bytes → n < next.bytes → IsStoredTo bytes s s
not_stored s p links given next stored sent bytes n is more m same lt =
    let long = next_long p given next stored more m in
    let first : Standing = record { peer = p; links = links; given = given.entries; stored = stored; sent = sent } in
    let still : IsStoredTo bytes first first = record { same = refl; stays = omega arith; ends_within = inl refl; no_more = inr (omega arith) } in
    subst (λ (r : Standing). IsStoredTo bytes r r) is still

-- and does where it ends within them
pub one_is_stored : (s : Standing) (p : PeerState) (links : List Reading) (given next : Mark) (stored sent bytes n : ℕ) →
    record { peer = p; links = links; given = given.entries; stored = stored; sent = sent } ≡ s → next.entries ≡ stored + 1 → AreMarks p given next stored → stored < given.entries → n ≡ bytes → next.bytes ≤ n →
    IsOneStored bytes s (record { peer = p; links = links; given = given.entries; stored = stored + 1; sent = sent })
one_is_stored s p links given next stored sent bytes n is more m lt same le =
    let long = next_long p given next stored more m in
    let first : Standing = record { peer = p; links = links; given = given.entries; stored = stored; sent = sent } in
    let t : Standing = record { peer = p; links = links; given = given.entries; stored = stored + 1; sent = sent } in
    let one : IsOneStored bytes first t = record { goes_on = refl; there = lt; ends_within = omega arith } in
    subst (λ (r : Standing). IsOneStored bytes r t) is one
