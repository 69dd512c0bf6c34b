-- Unused: which numbers are still unused after a poll.
use Rattle.std.proofs.Common.{◌≡◌, ◌≢◌, ◌≤◌, ◌<◌, ◌+◌, ◌==◌, ◌∙◌, false, ℕ, List, [], ◌∷◌, ◌++◌, refl, sym, ap, subst, arith}
use Rattle.std.proofs.lemmas.Bool.Decides.{nat_tests}
use Rattle.socket_station.specs.declared.answers.Addr.{Addr}
use Rattle.socket_station.specs.declared.answers.Dial.{Dial}
use Rattle.socket_station.specs.declared.answers.Dial.TheVariants as D
use Rattle.socket_station.specs.declared.answers.Did.{Did}
use Rattle.socket_station.specs.declared.answers.Did.TheVariants.{Done, Failed as DidFailed}
use Rattle.socket_station.specs.declared.answers.Ready.{Ready}
use Rattle.socket_station.specs.declared.answers.Ready.TheVariants.{Opened, Socket as Seems}
use Rattle.socket_station.specs.declared.answers.Standing.{Standing}
use Rattle.socket_station.specs.declared.answers.Standing.TheVariants.{Fresh, Open}
use Rattle.socket_station.specs.declared.answers.SocketRead.{SocketRead}
use Rattle.socket_station.specs.declared.answers.SocketRead.TheVariants as R
use Rattle.socket_station.specs.declared.answers.SocketWrite.{SocketWrite}
use Rattle.socket_station.specs.declared.answers.SocketWrite.TheVariants as W
use Rattle.socket_station.specs.Items.{Item, Polled, Failed, PollCall, Shut, dial_item, keep_item, listen_item, log_item, poll_item, read_item, sync_item, write_item}
use Rattle.socket_station.specs.Standings.{standing_in, standing_after, opens, AreNew, OpensNew}
use Rattle.socket_station.proofs.Histories.{standing-more}
use Rattle.station_mio.specs.Numbers.{AreUnused, DialsBetween, OpensBetween}

differ : (m n : ℕ) → m ≢ n → (m == n) ≡ false
differ m n h = grind (arith, nat_tests)

-- the last number is not below the first
in-order : (list : List Ready) (first last : ℕ) → OpensBetween first last list → first ≤ last
in-order [] first last h = h
in-order (Opened s ∷ more) first last h = let r = in-order more (s + 1) last h.1 in let h0 = h.0 in omega (arith, r)
in-order (Seems s ∷ more) first last h = in-order more first last h

-- no number before the first is opened
opens-before : (list : List Ready) (first last n : ℕ) → OpensBetween first last list → n < first → opens list n ≡ false
opens-before [] first last n h b = refl
opens-before (Opened s ∷ more) first last n h b =
    let d = differ s n (λ e. absurd (let e' : s ≡ n = e in let h0 = h.0 in omega arith)) in
    let h0 = h.0 in
    rw d (opens-before more (s + 1) last n h.1 (omega arith))
opens-before (Seems s ∷ more) first last n h b = opens-before more first last n h b

-- nor one from the last on
opens-behind : (list : List Ready) (first last n : ℕ) → OpensBetween first last list → last ≤ n → opens list n ≡ false
opens-behind [] first last n h b = refl
opens-behind (Opened s ∷ more) first last n h b =
    let i = in-order more (s + 1) last h.1 in
    let d = differ s n (λ e. absurd (let e' : s ≡ n = e in let i' : s + 1 ≤ last = i in omega arith)) in
    rw d (opens-behind more (s + 1) last n h.1 b)
opens-behind (Seems s ∷ more) first last n h b = opens-behind more first last n h b

-- what is opened is new
are-new : (standing : ℕ → Standing) (list : List Ready) (first last : ℕ) → ((n : ℕ) → first ≤ n → standing n ≡ Fresh) → OpensBetween first last list → AreNew standing list
are-new standing [] first last u h = tt
are-new standing (Opened s ∷ more) first last u h =
    (u s h.0, opens-before more (s + 1) last s h.1 (omega arith), are-new standing more (s + 1) last (λ n b. let h0 = h.0 in u n (omega arith)) h.1)
are-new standing (Seems s ∷ more) first last u h = are-new standing more first last u h

pub polls-new : (items : List Item) (did : Did) (list : List Ready) (first last : ℕ) → AreUnused first items → OpensBetween first last list → OpensNew items (poll_item did list)
polls-new items Done list first last u h = are-new (standing_in items) list first last u h
polls-new items DidFailed list first last u h = tt

-- and the numbers from the last on are unused as before
pub unused-polled : (items : List Item) (did : Did) (list : List Ready) (first last : ℕ) → AreUnused first items → OpensBetween first last list → AreUnused last (items ++ poll_item did list ∷ [])
unused-polled items Done list first last u h = λ n b.
    let e = opens-behind list first last n h b in
    let i = in-order list first last h in
    standing-more items (Polled list) n ∙ (rw e (u n (omega (arith, i))))
unused-polled items DidFailed list first last u h = λ n b.
    let i = in-order list first last h in
    standing-more items (Failed PollCall) n ∙ u n (omega (arith, i))

-- a socket that is open has another number
closes_one : (items : List Item) (item : Item) (s first : ℕ) → AreUnused first items → standing_in items s ≡ Open → ((n : ℕ) → (s == n) ≡ false → standing_after n Fresh item ≡ Fresh) → AreUnused first (items ++ item ∷ [])
closes_one items item s first u is_open h = λ n b.
    let d = differ s n (λ e. absurd (let same : Fresh ≡ Open = sym (u n b) ∙ ap (standing_in items) (sym e) ∙ is_open in cc)) in
    standing-more items item n ∙ ap (λ x. standing_after n x item) (u n b) ∙ h n d

pub unused-read : (items : List Item) (s first last : ℕ) (read : SocketRead) (buf : List ℕ) → AreUnused first items → standing_in items s ≡ Open → last ≡ first → AreUnused last (items ++ read_item s read buf ∷ [])
unused-read items s first last read buf u is_open same = subst (λ (n : ℕ). AreUnused n (items ++ read_item s read buf ∷ [])) (sym same) (by-read read)
  where
    by-read : (r : SocketRead) → AreUnused first (items ++ read_item s r buf ∷ [])
    by-read (R.Took count) = closes_one items (read_item s (R.Took count) buf) s first u is_open (λ n d. refl)
    by-read R.NotYet = closes_one items (read_item s R.NotYet buf) s first u is_open (λ n d. refl)
    by-read R.Ended = closes_one items (read_item s R.Ended buf) s first u is_open (λ n d. rw d refl)
    by-read R.Failed = closes_one items (read_item s R.Failed buf) s first u is_open (λ n d. rw d refl)

pub unused-written : (items : List Item) (s first last : ℕ) (write : SocketWrite) (bytes : List ℕ) → AreUnused first items → standing_in items s ≡ Open → last ≡ first → AreUnused last (items ++ write_item s write bytes ∷ [])
unused-written items s first last write bytes u is_open same = subst (λ (n : ℕ). AreUnused n (items ++ write_item s write bytes ∷ [])) (sym same) (by-write write)
  where
    by-write : (r : SocketWrite) → AreUnused first (items ++ write_item s r bytes ∷ [])
    by-write (W.Gave count) = closes_one items (write_item s (W.Gave count) bytes) s first u is_open (λ n d. refl)
    by-write W.NotYet = closes_one items (write_item s W.NotYet bytes) s first u is_open (λ n d. refl)
    by-write W.Failed = closes_one items (write_item s W.Failed bytes) s first u is_open (λ n d. rw d refl)

pub unused-shut : (items : List Item) (s first last : ℕ) → AreUnused first items → standing_in items s ≡ Open → last ≡ first → AreUnused last (items ++ Shut s ∷ [])
unused-shut items s first last u is_open same = subst (λ (n : ℕ). AreUnused n (items ++ Shut s ∷ [])) (sym same) (closes_one items (Shut s) s first u is_open (λ n d. rw d refl))

-- an item that opens and closes nothing
unused-still : (items : List Item) (item : Item) (first last : ℕ) → ((n : ℕ) → standing_after n Fresh item ≡ Fresh) → AreUnused first items → last ≡ first → AreUnused last (items ++ item ∷ [])
unused-still items item first last still u same = subst (λ (m : ℕ). AreUnused m (items ++ item ∷ [])) (sym same)
    (λ n b. standing-more items item n ∙ ap (λ x. standing_after n x item) (u n b) ∙ still n)

pub unused-listened : (items : List Item) (did : Did) (addr : Addr) (first last : ℕ) → AreUnused first items → last ≡ first → AreUnused last (items ++ listen_item did addr ∷ [])
unused-listened items Done addr first last u same = unused-still items (listen_item Done addr) first last (λ n. refl) u same
unused-listened items DidFailed addr first last u same = unused-still items (listen_item DidFailed addr) first last (λ n. refl) u same

pub unused-logged : (items : List Item) (did : Did) (name : List ℕ) (first last : ℕ) → AreUnused first items → last ≡ first → AreUnused last (items ++ log_item did name ∷ [])
unused-logged items Done name first last u same = unused-still items (log_item Done name) first last (λ n. refl) u same
unused-logged items DidFailed name first last u same = unused-still items (log_item DidFailed name) first last (λ n. refl) u same

pub unused-kept : (items : List Item) (did : Did) (bytes : List ℕ) (first last : ℕ) → AreUnused first items → last ≡ first → AreUnused last (items ++ keep_item did bytes ∷ [])
unused-kept items Done bytes first last u same = unused-still items (keep_item Done bytes) first last (λ n. refl) u same
unused-kept items DidFailed bytes first last u same = unused-still items (keep_item DidFailed bytes) first last (λ n. refl) u same

pub unused-synced : (items : List Item) (did : Did) (first last : ℕ) → AreUnused first items → last ≡ first → AreUnused last (items ++ sync_item did ∷ [])
unused-synced items Done first last u same = unused-still items (sync_item Done) first last (λ n. refl) u same
unused-synced items DidFailed first last u same = unused-still items (sync_item DidFailed) first last (λ n. refl) u same

-- a dial opens the next number
pub unused-dialled : (items : List Item) (dial : Dial) (player : ℕ) (addr : Addr) (first last : ℕ) → AreUnused first items → DialsBetween first last dial → AreUnused last (items ++ dial_item dial player addr ∷ [])
unused-dialled items (D.Socket s) player addr first last u w = λ n b.
    let from = w.0 in
    let to = w.1 in
    let d = differ s n (λ e. absurd (let e' : s ≡ n = e in omega (arith, to, b))) in
    standing-more items (dial_item (D.Socket s) player addr) n ∙ rw d (u n (omega (arith, from, to, b)))
unused-dialled items D.Failed player addr first last u w = λ n b. standing-more items (dial_item D.Failed player addr) n ∙ u n (let from : first ≤ last = w in omega (arith, from, b))

pub dials-new : (items : List Item) (dial : Dial) (player : ℕ) (addr : Addr) (first last : ℕ) → AreUnused first items → DialsBetween first last dial → OpensNew items (dial_item dial player addr)
dials-new items (D.Socket s) player addr first last u w = u s w.0
dials-new items D.Failed player addr first last u w = tt
