-- Owned: each list is of its player's own log, and the agreed turns of the lists are those of the streams.
use Rattle.std.proofs.Common.{◌≡◌, ℕ, zero, suc, ◌*◌, ◌<◌, ◌≤◌, Bool, true, false, List, [], ◌∷◌, length, refl, sym, ap, subst, ◌∙◌, arith, inl, inr}
use Rattle.std.specs.Prelude.{Option, Some, None, ◌==◌, if◌then◌else◌, slice_get}
use Rattle.std.specs.List.{range_with_len}
use Rattle.std.proofs.lemmas.Bool.{cases_lt}
use Rattle.std.proofs.lemmas.List.{length-map}
use Rattle.std.proofs.lemmas.Option.{slice_get_within}
use Rattle.definitions.specs.declared.logs.Entry.{Entry}
use Rattle.definitions.specs.declared.world.Move.{Move}
use Rattle.definitions.specs.Entries.{AreWellFormed}
use Rattle.definitions.specs.Lists.{item_or}
use Rattle.definitions.specs.World.{Game, players_of}
use Rattle.definitions.specs.Held.{known, known_to, resolved}
use Rattle.definitions.specs.Logs.{got_of, made}
use Rattle.definition_laws.proofs.Listing.{slice_get_map}
use Rattle.definition_laws.proofs.Nexts.{some_at}
use Rattle.definition_laws.proofs.Silent.{filter_map_alike}
use Rattle.evidence.proofs.Showing.{item_there}
use Rattle.frame_index.specs.Agreeing.{one_move}
use Rattle.agreed_turns.specs.Agreed as T
use Rattle.agreed_turns.specs.Agreed.{agreed_count as turns_count, agreed_move as turns_move}
use Rattle.agreed_turns.specs.States.{AgreedState, IsOf}
use Rattle.auditor.specs.Agreed as A
use Rattle.auditor.specs.Agreed.{AreOwned, agreed_move, agreed_moves}
use Rattle.auditor.specs.Audits.{AuditState}
use Rattle.log_streams.specs.Streams.{Stream, bytes_of, entries_in, entries_of, lists_of, owner_of, owners_of}
use Rattle.log_streams.proofs.Pieces.{nothing_read}
use Rattle.session_log.specs.Laws.{owner_in}
use Rattle.session_log.proofs.ReadSo.{read_well_formed}
use Rattle.log_books.specs.declared.pages.Page.{Page}
use Rattle.log_books.specs.Books.{BooksState, StandFor, is_agreed, is_agreed_of}
use Rattle.log_books.specs.Heeding.{IsOwn}
use Rattle.log_books.proofs.Kept.{seen}
use Rattle.log_books.proofs.Lists.{all_as, same_get}

-- each list is of a log that its owner may have written
pub are_owned : (game : Game) (streams : List Stream) → AreOwned game (owners_of game streams) (lists_of game streams)
are_owned game streams i o h g k =
    let lt : i < length streams = (let l = slice_get_within (lists_of game streams) i h g in let n = length-map streams (entries_of game) in omega (arith, l, n)) in
    let at = some_at streams i lt in
    let s : Stream = at.0 in
    let is : h ≡ entries_of game s = same_get (slice_get (lists_of game streams) i) h (entries_of game s) g (slice_get_map (entries_of game) streams i s at.1) in
    let own : owner_of game s ≡ Some o = sym (item_there (owners_of game streams) i (owner_of game s) None (slice_get_map (owner_of game) streams i s at.1)) ∙ k in
    subst (AreWellFormed game o) (sym is) (read_well_formed game (bytes_of s) o own)

-- a log of which no owner is known resolves as its player's does, where it has no entries
resolved_none : (game : Game) (me q t : ℕ) → A.resolved_by game None [] q t ≡ resolved game me [] q t
unfolding known made got_of
resolved_none game me q t = go (q == me) refl
  where
    go : (b : Bool) → (q == me) ≡ b → A.resolved_by game None [] q t ≡ resolved game me [] q t
    go true e = ap (λ (b : Bool). slice_get (known_to game q (if b then made [] else got_of q []) (2 * game.turns)).moves t) (sym e)
    go false e = ap (λ (b : Bool). slice_get (known_to game q (if b then made [] else got_of q []) (2 * game.turns)).moves t) (sym e)

-- by the bytes of the player's own log
by_bytes : (game : Game) (me q t : ℕ) (bytes : List ℕ) → (0 < length bytes → owner_in game bytes ≡ Some me) → resolved game me (entries_in game bytes) q t ≡ A.resolved_by game (owner_in game bytes) (entries_in game bytes) q t
by_bytes game me q t [] own =
    ap (λ (es : List Entry). resolved game me es q t) (nothing_read game) ∙ sym (resolved_none game me q t) ∙ ap (λ (es : List Entry). A.resolved_by game None es q t) (sym (nothing_read game))
by_bytes game me q t (b ∷ bytes) own = ap (λ (o : Option ℕ). A.resolved_by game o (entries_in game (b ∷ bytes)) q t) (sym (own (omega arith)))

-- the item past the last
past : {X : Type 0} (xs : List X) (i : ℕ) (d : X) → length xs ≤ i → item_or xs i d ≡ d
past [] i d le = refl
past (x ∷ xs) zero d le = absurd (omega (arith, le))
past (x ∷ xs) (suc i) d le = past xs i d (omega (arith, le))

module _ (game : Game) (streams : List Stream) (own : (i : ℕ) (s : Stream) → slice_get streams i ≡ Some s → IsOwn game i s) where
  resolved_is : (q t i : ℕ) → T.resolved_at game (lists_of game streams) q t i ≡ A.resolved_at game (owners_of game streams) (lists_of game streams) q t i
  resolved_is q t i = elim (cases_lt i (length streams)) [
    | inl lt ↦
        let at = some_at streams i lt in
        let list : item_or (lists_of game streams) i [] ≡ entries_of game at.0 = item_there (lists_of game streams) i (entries_of game at.0) [] (slice_get_map (entries_of game) streams i at.0 at.1) in
        let owner : item_or (owners_of game streams) i None ≡ owner_of game at.0 = item_there (owners_of game streams) i (owner_of game at.0) None (slice_get_map (owner_of game) streams i at.0 at.1) in
        ap (λ (es : List Entry). resolved game i es q t) list ∙ by_bytes game i q t (bytes_of at.0) (own i at.0 at.1)
        ∙ ap (λ (o : Option ℕ). A.resolved_by game o (entries_of game at.0) q t) (sym owner) ∙ ap (λ (es : List Entry). A.resolved_by game (item_or (owners_of game streams) i None) es q t) (sym list)
    | inr ge ↦
        let list : item_or (lists_of game streams) i [] ≡ [] = past (lists_of game streams) i [] (let n = length-map streams (entries_of game) in omega (arith, ge, n)) in
        let owner : item_or (owners_of game streams) i None ≡ None = past (owners_of game streams) i None (let n = length-map streams (owner_of game) in omega (arith, ge, n)) in
        ap (λ (es : List Entry). resolved game i es q t) list ∙ sym (resolved_none game i q t)
        ∙ ap (λ (o : Option ℕ). A.resolved_by game o [] q t) (sym owner) ∙ ap (λ (es : List Entry). A.resolved_by game (item_or (owners_of game streams) i None) es q t) (sym list)
  ]

  move_is : (q t : ℕ) → turns_move game (lists_of game streams) q t ≡ agreed_move game (owners_of game streams) (lists_of game streams) q t
  unfolding turns_move agreed_move
  move_is q t = ap one_move (filter_map_alike (T.resolved_at game (lists_of game streams) q t) (A.resolved_at game (owners_of game streams) (lists_of game streams) q t) (range_with_len 0 (length (lists_of game streams))) (resolved_is q t))

  -- so as many turns are agreed
  pub count_is : (q : ℕ) → turns_count game (lists_of game streams) q ≡ A.agreed_count game (owners_of game streams) (lists_of game streams) q
  unfolding turns_count agreed_moves
  count_is q =
      ap (λ (ms : List Move). length ms)
      (filter_map_alike (turns_move game (lists_of game streams) q) (agreed_move game (owners_of game streams) (lists_of game streams) q) (range_with_len 0 game.turns) (move_is q))

  pub agreed_is : T.is_whole game (lists_of game streams) ≡ is_agreed game streams
  agreed_is = all_as (T.is_whole_of game (lists_of game streams)) (is_agreed_of game streams) 0 (players_of game) (λ q lt. ap (λ (n : ℕ). n == game.turns) (count_is q))

-- as contracts see the books
module _ (game : Game) (streams : List Stream) (out : Bool) (a : AuditState) (g : AgreedState) (pages : List Page) (v : BooksState) (e : seen game streams out ≡ v) (w : StandFor game streams a g pages) where
  pub agreed_here : (q n : ℕ) → ((logs : List (List Entry)) → IsOf g.game logs g → n ≡ turns_count g.game logs q) → n ≡ A.agreed_count v.game (owners_of v.game v.streams) (lists_of v.game v.streams) q
  agreed_here q n f =
      let now : (logs : List (List Entry)) → IsOf game logs g → n ≡ turns_count game logs q = subst (λ (x : Game). (logs : List (List Entry)) → IsOf x logs g → n ≡ turns_count x logs q) (w.agreed).session f in
      now (lists_of game streams) w.agreed ∙ count_is game streams w.own q ∙ ap (λ (x : BooksState). A.agreed_count x.game (owners_of x.game x.streams) (lists_of x.game x.streams) q) e

  pub whole_here : (b : Bool) → ((logs : List (List Entry)) → IsOf g.game logs g → b ≡ T.is_whole g.game logs) → b ≡ is_agreed v.game v.streams
  whole_here b f =
      let now : (logs : List (List Entry)) → IsOf game logs g → b ≡ T.is_whole game logs = subst (λ (x : Game). (logs : List (List Entry)) → IsOf x logs g → b ≡ T.is_whole x logs) (w.agreed).session f in
      now (lists_of game streams) w.agreed ∙ agreed_is game streams w.own ∙ ap (λ (x : BooksState). is_agreed x.game x.streams) e
