-- Turned: a page goes on with the bytes that came.
use Rattle.std.proofs.Common.{◌≡◌, ℕ, ◌+◌, ◌<◌, ◌≤◌, Bool, true, false, List, [], ◌∷◌, ◌++◌, length, refl, sym, ap, subst, ◌∙◌, append-nil, arith, slice_set}
use Rattle.std.specs.Prelude.{Option, Some, None, ◌&&◌, ◌==◌, is_some, nat_lt, not, if◌then◌else◌, slice_get}
use Rattle.std.proofs.lemmas.Bool.{eqb-true, false≢true, lt-ltb}
use Rattle.definitions.specs.declared.limits.TheConstants.{LONGEST_LOG}
use Rattle.definitions.specs.declared.logs.Entry.{Entry}
use Rattle.definitions.specs.Entries.{AreWellFormed}
use Rattle.definitions.specs.World.{Game, players_of}
use Rattle.agreed_turns.specs.States.{AgreedState, IsOf}
use Rattle.session_log.specs.declared.faults.LogFault.{LogFault}
use Rattle.session_log.specs.Fed.{IsFeedOf}
use Rattle.session_log.specs.Feeding.{LogFeeding, given_of}
use Rattle.session_log.specs.Laws.{owner_in as owner_read}
use Rattle.session_log.proofs.ReadSo.{read_well_formed}
use Rattle.auditor.specs.Audits.{AuditState, owner_in}
use Rattle.auditor.specs.Taking.{IsFeeding, LeavesOthers, TakesAll}
use Rattle.log_streams.specs.Streams.{Stream, bytes_of, count_of, entries_of, feeding_of, gone_on, is_others, owner_of, took}
use Rattle.log_streams.proofs.Pieces.{joined_more}
use Rattle.log_books.specs.declared.pages.Page.{Page}
use Rattle.log_books.specs.Heeding.{ComesAll, Heeds, IsOwn}
use Rattle.log_books.specs.Pages.{GoesOn, IsPageOf, begins_others}
use Rattle.log_books.proofs.Lists.{set_same}
use Rattle.log_streams.proofs.Streams.{count_more, entries_more, feeding_more, owner_is}

others_test : (game : Game) (a : AuditState) (q : ℕ) (s : Stream) (p : Page) (bytes : List ℕ) → IsPageOf game a q s p → begins_others p q bytes ≡ ((count_of s == 0) && is_others q bytes)
others_test game a q s p bytes w = ap (λ (n : ℕ). (n == 0) && is_others q bytes) w.count

-- the first byte is another player's: the player is closed
pub others_go : (game : Game) (a : AuditState) (q : ℕ) (s : Stream) (p : Page) (bytes : List ℕ) → IsPageOf game a q s p → begins_others p q bytes ≡ true → GoesOn game a a q s (took game q s bytes) (record p { is_closed = true })
others_go game a q s p bytes w h =
    let e : ((count_of s == 0) && is_others q bytes) ≡ true = sym (others_test game a q s p bytes w) ∙ h in
    subst (λ (b : Bool). GoesOn game a a q s (if b then record s { is_closed = true } else gone_on game (s.pieces ++ bytes ∷ [])) (record p { is_closed = true })) (sym e) (record {
      page = record { closed = refl; count = w.count; most = w.most; feed = w.feed; used = w.used; counted = w.counted };
      more = [];
      entries = sym (append-nil (entries_of game s));
      taken = λ g logs is. is;
      owner = λ o. o;
      session = refl;
      others = λ i n. (refl, refl);
    })

-- the bytes were fed to the page, and the auditor took what they gave
pub record WasFed (game : Game) (a b : AuditState) (q : ℕ) (s : Stream) (p m : Page) (bytes : List ℕ) : Type 0 where
  pub all : TakesAll game a b q p.feed m.feed bytes (feeding_of game s.pieces)
  pub feeding : IsFeeding b q m.feed
  pub within : m.feed.used ≤ p.feed.used + length bytes
  pub session : b.session ≡ a.session
  pub owner : owner_in b q ≡ m.feed.owner
  pub others : LeavesOthers a b q
  pub count : m.count ≡ p.count + length bytes
  pub few : p.count + length bytes ≤ LONGEST_LOG
  pub closed : m.is_closed ≡ is_some m.feed.fault

pub fed_goes : (game : Game) (a b : AuditState) (q : ℕ) (s : Stream) (p m : Page) (bytes : List ℕ) → IsPageOf game a q s p → begins_others p q bytes ≡ false → WasFed game a b q s p m bytes → GoesOn game a b q s (took game q s bytes) m
fed_goes game a b q s p m bytes w h k =
    let e : ((count_of s == 0) && is_others q bytes) ≡ false = sym (others_test game a q s p bytes w) ∙ h in
    let f : LogFeeding = feeding_of game (s.pieces ++ bytes ∷ []) in
    let t : Stream = gone_on game (s.pieces ++ bytes ∷ []) in
    let is : IsFeedOf m.feed f = subst (IsFeedOf m.feed) (sym (feeding_more game s.pieces bytes)) k.all.feed in
    subst (λ (c : Bool). GoesOn game a b q s (if c then record s { is_closed = true } else t) m) (sym e) (record {
      page = record {
        closed = k.closed ∙ ap (λ (o : Option LogFault). is_some o) is.fault;
        count = k.count ∙ ap (λ n. n + length bytes) w.count ∙ sym (count_more game s bytes);
        most = (let few = k.few in let n = k.count in omega (arith, few, n));
        feed = is;
        used = (let u = k.within in let v = w.used in let n = k.count in omega (arith, u, v, n));
        counted = k.feeding.counted;
      };
      more = (given_of game (feeding_of game s.pieces) bytes).entries;
      entries = entries_more game s bytes;
      taken = k.all.taken;
      owner = λ o. k.owner ∙ is.owner ∙ owner_is game t;
      session = k.session;
      others = k.others;
    })

-- ---- the agreed turns

-- a log that is closed by another player's byte is as it was
pub others_heed : (game : Game) (a : AuditState) (g : AgreedState) (q : ℕ) (s : Stream) (p : Page) (bytes : List ℕ) → IsPageOf game a q s p → IsOwn game q s → begins_others p q bytes ≡ true → Heeds game a g g q s (took game q s bytes)
others_heed game a g q s p bytes w own h =
    let e : ((count_of s == 0) && is_others q bytes) ≡ true = sym (others_test game a q s p bytes w) ∙ h in
    subst (λ (b : Bool). Heeds game a g g q s (if b then record s { is_closed = true } else gone_on game (s.pieces ++ bytes ∷ []))) (sym e) (record {
      own = own;
      lists_are = λ lists audit there of. subst (λ (ls : List (List Entry)). IsOf game ls g) (sym (set_same lists q (entries_of game s) there)) of;
    })

-- the first byte is the player's own, where it isn't another player's
first_own : (game : Game) (q : ℕ) (bytes : List ℕ) → q < players_of game → 0 < length bytes → is_others q bytes ≡ false → owner_read game bytes ≡ Some q
first_own game q [] lt some h = absurd (omega (arith, some))
first_own game q (b ∷ bytes) lt some h =
    let same : b ≡ q = eqb-true b q (not_is (b == q) h) in
    subst (λ (n : ℕ). (if nat_lt n (players_of game) then Some n else None) ≡ Some q) (sym same) (ap (λ (c : Bool). if c then Some q else None) (lt-ltb q (players_of game) lt))
  where
    not_is : (c : Bool) → not c ≡ false → c ≡ true
    not_is true e = refl
    not_is false e = absurd (false≢true (sym e))

-- a log that goes on stays the player's own
own_on : (game : Game) (q : ℕ) (before bytes : List ℕ) → q < players_of game → 0 < length bytes → ((length before == 0) && is_others q bytes) ≡ false → (0 < length before → owner_read game before ≡ Some q) → owner_read game (before ++ bytes) ≡ Some q
own_on game q [] bytes lt some h own = first_own game q bytes lt some h
own_on game q (b ∷ before) bytes lt some h own = own (omega arith)

pub fed_heed : (game : Game) (a b : AuditState) (g h : AgreedState) (q : ℕ) (s : Stream) (p m : Page) (bytes : List ℕ) → q < players_of game → 0 < length bytes → IsPageOf game a q s p → IsOwn game q s → begins_others p q bytes ≡ false →
    ComesAll game a b g h q p.feed m.feed bytes (feeding_of game s.pieces) → Heeds game a g h q s (took game q s bytes)
fed_heed game a b g h q s p m bytes lt some w own others all =
    let e : ((count_of s == 0) && is_others q bytes) ≡ false = sym (others_test game a q s p bytes w) ∙ others in
    let t : Stream = gone_on game (s.pieces ++ bytes ∷ []) in
    let owned : owner_of game t ≡ Some q = ap (owner_read game) (joined_more s.pieces bytes) ∙ own_on game q (bytes_of s) bytes lt some e own in
    let more : List Entry = (given_of game (feeding_of game s.pieces) bytes).entries in
    let are : entries_of game t ≡ entries_of game s ++ more = entries_more game s bytes in
    subst (λ (c : Bool). Heeds game a g h q s (if c then record s { is_closed = true } else t)) (sym e) (record {
      own = λ n. owned;
      lists_are = λ lists audit there of.
          subst (λ (es : List Entry). IsOf game (slice_set lists q es) h) (sym are)
          ((all.came).heeded lists (entries_of game s) audit there (subst (AreWellFormed game q) are (read_well_formed game (bytes_of t) q owned)) of);
    })
