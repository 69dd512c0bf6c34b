-- Fed: a file that comes in pieces is taken as far as it came.
use Rattle.std.proofs.Common.{◌≡◌, ◌≤◌, ◌+◌, ℕ, Bool, true, false, List, [], ◌∷◌, ◌++◌, Option, None, Some, length, drop, refl, sym, ap, ◌∙◌, subst, arith, length-append}
use Rattle.std.specs.Prelude.{is_some, nat_le}
use Rattle.std.proofs.lemmas.Bool.{le-leb, leb-true}
use Rattle.std.proofs.lemmas.List.{length-drop}
use Rattle.definitions.specs.declared.limits.TheConstants.{LONGEST_LOG}
use Rattle.definitions.specs.Lists.{is_empty}
use Rattle.definitions.specs.World.{Game}
use Rattle.seal_keys.specs.Seals.{seal_len}
use Rattle.sealed_files.specs.SealedFrames.{frame_len, is_whole}
use Rattle.sealed_files.specs.Beginnings.{Begins}
use Rattle.sealed_files.proofs.Begun.{begins_more, begins_on, begins_short, stuck_more, whole_on}
use Rattle.accuser.specs.declared.taker.Taker.{Taker}
use Rattle.accuser.specs.declared.taker.FrontFault.TheVariants.{Stuck}
use Rattle.accuser.specs.Taking.{IsFrontFault, IsTakenTo, TakesBytes, TakesFront, bad_in}
use Rattle.accuser.specs.Feeds.{Feeding, FeedsOn, HasRoomFor, IsAt, IsBadFrom, IsFed, IsUnderway, so_far}
use Rattle.accuser.proofs.Taken.{both_taken, empty_of, front_none, some_of, stuck_at, taken_whole}

-- whether one number is at most the other
le_of : (a b : ℕ) → nat_le a b ≡ true → a ≤ b
le_of a b e = leb-true a b e

whole_le : (game : Game) (bytes : List ℕ) → is_whole game bytes ≡ true → frame_len bytes + seal_len game ≤ length bytes
whole_le game bytes e = le_of (frame_len bytes + seal_len game) (length bytes) e

le_whole : (game : Game) (bytes : List ℕ) → frame_len bytes + seal_len game ≤ length bytes → is_whole game bytes ≡ true
le_whole game bytes le = le-leb (frame_len bytes + seal_len game) (length bytes) le

none_whole : (game : Game) → is_whole game [] ≡ false
none_whole game = go (is_whole game []) refl
  where
    go : (b : Bool) → is_whole game [] ≡ b → is_whole game [] ≡ false
    go false e = e
    go true e = absurd (let le = whole_le game [] e in omega (arith, le))

whole_some : (game : Game) (bytes : List ℕ) → is_whole game bytes ≡ true → is_empty bytes ≡ false
whole_some game [] e = absurd (let le = whole_le game [] e in omega (arith, le))
whole_some game (x ∷ xs) e = refl

-- the feed that nothing came to
abbrev pub no_feed : Feeding
no_feed = record { pending = []; at = 0; bad = None }

-- ---- of a file of which these bytes came

module _ (game : Game) (roots : List (List ℕ)) (file : ℕ) where
  pub fed_none : (t : Taker) → IsFed game roots t t file [] no_feed
  fed_none t = record { front = front_none game roots file [] t; place = refl; few = none_whole game }

  -- the front of what waited with what came is taken
  pub front_on : (a b c : Taker) (bytes pending more rest : List ℕ) → TakesFront game roots a b file bytes pending → TakesFront game roots b c file (pending ++ more) rest →
      TakesFront game roots a c file (bytes ++ more) rest
  front_on a b c bytes pending more rest one two = record {
    frames = one.frames ++ two.frames;
    begins = begins_on game roots (bytes ++ more) one.frames (pending ++ more) two.frames rest (begins_more game roots bytes one.frames pending more one.begins) two.begins;
    taken = both_taken a b c file one.frames two.frames one.taken two.taken;
  }

  -- the same where nothing more came
  front_end : (a b c : Taker) (bytes pending rest : List ℕ) → TakesFront game roots a b file bytes pending → TakesFront game roots b c file pending rest → TakesFront game roots a c file bytes rest
  front_end a b c bytes pending rest one two = record {
    frames = one.frames ++ two.frames;
    begins = begins_on game roots bytes one.frames pending two.frames rest one.begins two.begins;
    taken = both_taken a b c file one.frames two.frames one.taken two.taken;
  }

  pub goes_on : (a b c : Taker) (bytes more joined : List ℕ) (f g : Feeding) (count : ℕ) → IsUnderway game roots a b file bytes f → joined ≡ f.pending ++ more → IsTakenTo game roots b c file false joined count →
      g.pending ≡ drop count joined → g.at ≡ f.at + count → g.bad ≡ None → IsFed game roots a c file (bytes ++ more) g
  goes_on a b c bytes more joined f g count w same taken rest place none =
      let front : TakesFront game roots b c file (f.pending ++ more) g.pending
      = subst (λ (xs : List ℕ). TakesFront game roots b c file xs g.pending) same (subst (TakesFront game roots b c file joined) (sym rest) taken.front) in
      let all = length-append bytes more in
      let waited = ap (λ (xs : List ℕ). length xs) same ∙ length-append f.pending more in
      let dropped = ap (λ (xs : List ℕ). length xs) rest ∙ length-drop count joined in
      let was = w.place in
      let within = taken.within in
      let on : IsUnderway game roots a c file (bytes ++ more) g = record {
        front = front_on a b c bytes f.pending more g.pending w.front front;
        place = omega (arith, all, waited, dropped, was, within, place);
        few = ap (is_whole game) rest ∙ taken.over;
      } in
      subst (so_far game roots a c file (bytes ++ more) g) (sym none) on

  pub gets_stuck : (a b : Taker) (bytes more joined : List ℕ) (f : Feeding) (at : ℕ) → IsUnderway game roots a b file bytes f → joined ≡ f.pending ++ more → IsFrontFault game roots false joined (Stuck at) →
      IsBadFrom game roots (bytes ++ more) (f.at + at)
  gets_stuck a b bytes more joined f at w same (within, stuck) =
      let all = length-append bytes more in
      let waited = ap (λ (xs : List ℕ). length xs) same ∙ length-append f.pending more in
      let dropped = length-drop at joined in
      let was = w.place in
      let begins : Begins game roots (f.pending ++ more) stuck.frames (drop at joined) = subst (λ (xs : List ℕ). Begins game roots xs stuck.frames (drop at joined)) same stuck.begins in
      record {
        rest = drop at joined;
        stuck = record {
          frames = w.front.frames ++ stuck.frames;
          begins = begins_on game roots (bytes ++ more) w.front.frames (f.pending ++ more) stuck.frames (drop at joined) (begins_more game roots bytes w.front.frames f.pending more w.front.begins) begins;
          asked = stuck.asked;
          none = stuck.none;
        };
        place = omega (arith, all, waited, dropped, was, within);
      }

  pub stays_bad : (bytes more : List ℕ) (at : ℕ) → IsBadFrom game roots bytes at → IsBadFrom game roots (bytes ++ more) at
  stays_bad bytes more at w =
      let whole = whole_le game w.rest w.stuck.asked in
      let longer = length-append w.rest more in
      let all = length-append bytes more in
      let was = w.place in
      let on = whole_on game roots w.rest more whole in
      record {
        rest = w.rest ++ more;
        stuck = record {
          frames = w.stuck.frames;
          begins = begins_more game roots bytes w.stuck.frames w.rest more w.stuck.begins;
          asked = le_whole game (w.rest ++ more) (omega (arith, on, longer));
          none = stuck_more game roots w.rest more whole w.stuck.none;
        };
        place = omega (arith, longer, all, was);
      }

  -- ---- the file has ended

  pub ends_whole : (a b c : Taker) (bytes : List ℕ) (f : Feeding) (count : ℕ) → IsUnderway game roots a b file bytes f → IsTakenTo game roots b c file true f.pending count → TakesBytes game roots a c file bytes
  ends_whole a b c bytes f count w taken =
      taken_whole game roots file bytes a c (drop count f.pending) (front_end a b c bytes f.pending (drop count f.pending) w.front taken.front) (empty_of (drop count f.pending) taken.over)

  pub ends_stuck : (a b : Taker) (bytes : List ℕ) (f : Feeding) (at : ℕ) → IsUnderway game roots a b file bytes f → IsFrontFault game roots true f.pending (Stuck at) → bad_in game roots bytes ≡ Some (f.at + at)
  ends_stuck a b bytes f at w (within, stuck) =
      let dropped = length-drop at f.pending in
      let was = w.place in
      stuck_at game roots file bytes (drop at f.pending) (f.at + at) (w.front.frames ++ stuck.frames)
      (begins_on game roots bytes w.front.frames f.pending stuck.frames (drop at f.pending) w.front.begins stuck.begins)
      (some_of (drop at f.pending) stuck.asked) stuck.none (omega (arith, dropped, was, within))

  pub ends_bad : (bytes : List ℕ) (at : ℕ) → IsBadFrom game roots bytes at → bad_in game roots bytes ≡ Some at
  ends_bad bytes at w = stuck_at game roots file bytes w.rest at w.stuck.frames w.stuck.begins (whole_some game w.rest w.stuck.asked) w.stuck.none w.place

  -- ---- there is room

  pub has_room : (t : Taker) (f : Feeding) (at more : ℕ) → IsAt game roots t file f at → at + more ≤ LONGEST_LOG → HasRoomFor t file f more
  has_room t f at more w few none =
      let is : IsUnderway game roots w.start t file w.bytes f = subst (so_far game roots w.start t file w.bytes f) none w.fed in
      let short = begins_short game roots w.bytes is.front.frames f.pending is.front.begins in
      let counted = is.front.taken.counted in
      let place = is.place in
      let long = w.long in
      let untaken = w.untaken in
      record {
        counted = omega (arith, short, counted, long, untaken, few);
        place = omega (arith, place, long, few);
      }

  pub at_on : (t t' : Taker) (f f' : Feeding) (at : ℕ) (bytes : List ℕ) → IsAt game roots t file f at → FeedsOn game roots t t' file f f' bytes → IsAt game roots t' file f' (at + length bytes)
  at_on t t' f f' at bytes w on = record {
    start = w.start;
    bytes = w.bytes ++ bytes;
    fed = on w.start w.bytes w.fed;
    long = length-append w.bytes bytes ∙ ap (λ (n : ℕ). n + length bytes) w.long;
    untaken = w.untaken;
  }

-- ---- whether something is wrong

pub none_left : (o : Option ℕ) → ((x : ℕ) → o ≡ Some x → ⊥) → o ≡ None
none_left None not = refl
none_left (Some x) not = absurd (not x refl)

pub none_there : (o : Option ℕ) → is_some o ≡ false → o ≡ None
none_there None e = refl
none_there (Some x) e = absurd (let no : true ≡ false = e in cc)

pub stays_as_bad : (game : Game) (roots : List (List ℕ)) (file : ℕ) (s t : Taker) (all bytes : List ℕ) (f : Feeding) → is_some f.bad ≡ true → IsFed game roots s t file all f → IsFed game roots s t file (all ++ bytes) f
stays_as_bad game roots file s t all bytes f some fed = go f.bad some fed
  where
    go : (o : Option ℕ) → is_some o ≡ true → so_far game roots s t file all f o → so_far game roots s t file (all ++ bytes) f o
    go None e w = absurd (let no : false ≡ true = e in cc)
    go (Some at) e w = stays_bad game roots file all bytes at w
