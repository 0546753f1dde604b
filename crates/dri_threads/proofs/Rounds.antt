-- Passes and clients, one less and one more.
use Rattle.std.proofs.Common.{◌≡◌, ◌≢◌, ◌⊎◌, ℕ, zero, suc, ◌+◌, ◌<◌, ◌≤◌, List, [], ◌∷◌, ◌++◌, length, get_or, Bool, true, false, Option, Some, None, refl, sym, ap, ◌∙◌, subst, arith, inl, inr, length-append}
use Rattle.std.proofs.lemmas.List.{length-map}
use Rattle.std.specs.Prelude.{AllPairs, Contains, IfErr, IfOk, IfSome, Err, Ok, Result, option_to_list, slice_get, ◌-◌}
use Rattle.dri_base.specs.declared.scene.ClientScript.{ClientScript}
use Rattle.std.proofs.lemmas.Option.{get_or_from_slice_get, slice_get-get_or, slice_get_within, same_Some}
use mathlib.Core.Option.{some}
use lib.ListN.{get_elem?}
use Rattle.dri_base.specs.Ranges.{InRange, client_numbers}
use Rattle.dri_base.specs.Scenes.{commands_of}
use Rattle.dri_base.specs.declared.command.Command.{Command}
use Rattle.dri_base.specs.declared.journal.Entry.{Entry}
use Rattle.dri_base.specs.declared.scene.Scene.{Scene}
use Rattle.dri_hwlock.specs.declared.guarded.Guarded.{Ghosts}
use Rattle.dri_hwlock.specs.declared.tokens.Pass.{Pass}
use Rattle.dri_hwlock.specs.Tokens.{Token, LockId, AreNew, IsSuccessor, pass_token, new_token}
use Rattle.dri_hwlock.proofs.Lists.{at_end, at_before, at_length}
use Rattle.dri_core.specs.Phases.{first_phase, is_done}
use Rattle.dri_core.specs.Privates.{opening_part}
use Rattle.dri_core.specs.Runs.{after}
use Rattle.dri_driver.specs.Clients.{ClientState}
use Rattle.dri_driver.specs.Opening.{AreOpening, IsOpening}
use Rattle.dri_core.proofs.Lists.{number_at}
use Rattle.dri_threads.specs.Sessions.{is_at_rest}
use Rattle.dri_threads.specs.Actors.{IsNumber, Stands}
use Rattle.dri_threads.specs.Rounds.{AreBelow, IsEnough, IsServed, AreServed}

before : {A : Type 0} (xs ys : List A) (i : ℕ) (a : A) → slice_get xs i ≡ Some a → slice_get (xs ++ ys) i ≡ Some a
before [] ys i a e = absurd (grind arith)
before (x ∷ xs) ys zero a e = e
before (x ∷ xs) ys (suc i) a e = before xs ys i a e

at_last : {A : Type 0} (xs : List A) (a : A) → slice_get (xs ++ a ∷ []) (length xs) ≡ Some a
at_last [] a = refl
at_last (x ∷ xs) a = at_last xs a

-- of rising numbers an earlier one is less
earlier : (ns : List ℕ) (i j n m : ℕ) → AllPairs ◌<◌ ns → slice_get ns i ≡ Some n → slice_get ns j ≡ Some m → i < j → n < m
earlier ns i j n m rising at_i at_j lt =
    omega (arith, rising i j 0 lt (slice_get_within ns j m at_j), get_or_from_slice_get ns i n 0 at_i, get_or_from_slice_get ns j m 0 at_j)

-- a place where nothing stands is behind the end
beyond : {A : Type 0} (xs : List A) (i : ℕ) → slice_get xs i ≡ None → length xs ≤ i
beyond [] i e = omega arith
beyond (x ∷ xs) zero e = absurd (grind arith)
beyond (x ∷ xs) (suc i) e = let r = beyond xs i e in omega arith

-- where a list has a number
there : (ns : List ℕ) (n : ℕ) (has : Contains ns n) → slice_get ns has.0 ≡ Some n
there ns n has = slice_get-get_or ns has.0 n has.1 ∙ ap Some has.2

-- the last client is that of the number n
pub last_below : (s : Scene) (n : ℕ) (all ks : List ClientState) (k : ClientState) → AllPairs ◌<◌ (client_numbers s.clients) → AreBelow s (n + 1) all → all ≡ ks ++ k ∷ [] → slice_get (client_numbers s.clients) (length ks) ≡ Some n → AreBelow s n ks × IsOpening s n k
last_below s n all ks k rising below is at = (
  record {
    count = omega (arith, below.count, long);
    each = λ i c q at_i at_q. below.each i c q at_i (ap (λ l. slice_get l i) is ∙ before ks (k ∷ []) i q at_q);
    below = λ i c at_i lt. earlier (client_numbers s.clients) i (length ks) c n rising at_i at lt;
    above = above;
  },
  below.each (length ks) n k at (ap (λ l. slice_get l (length ks)) is ∙ at_last ks k),
)
  where
    long : length all ≡ length ks + 1
    long = ap length is ∙ length-append ks (k ∷ [])

    above : (i c : ℕ) → slice_get (client_numbers s.clients) i ≡ Some c → length ks ≤ i → n ≤ c
    above i c at_i le = by (or_more (length ks) i le)
      where
        or_more : (a b : ℕ) → a ≤ b → (a ≡ b) ⊎ (a + 1 ≤ b)
        or_more a b l = grind arith

        by : ((length ks ≡ i) ⊎ (length ks + 1 ≤ i)) → n ≤ c
        by (inl e) = let same : n ≡ c = same_Some _ _ (sym at ∙ (ap (slice_get (client_numbers s.clients)) e ∙ at_i)) in omega arith
        by (inr l) = omega (arith, below.above i c at_i (omega (arith, long)))

-- the last client isn't that of the number n, so the scene has none of this number
pub none_below : (s : Scene) (n : ℕ) (all : List ClientState) → AllPairs ◌<◌ (client_numbers s.clients) → AreBelow s (n + 1) all → ((i c : ℕ) → i + 1 ≡ length all → slice_get (client_numbers s.clients) i ≡ Some c → c ≢ n)
    → AreBelow s n all × (Contains (client_numbers s.clients) n → ⊥)
none_below s n all rising below other = (record { count = below.count; each = below.each; below = less; above = λ i c at le. omega (arith, below.above i c at le) }, nobody)
  where
    -- all before the last are less than it
    less : (i c : ℕ) → slice_get (client_numbers s.clients) i ≡ Some c → i < length all → c < n
    less i c at lt = by (last_or_not (i + 1) (length all) (omega arith))
      where
        last_or_not : (a b : ℕ) → a ≤ b → (a ≡ b) ⊎ (a + 1 ≤ b)
        last_or_not a b l = grind arith

        by : ((i + 1 ≡ length all) ⊎ (i + 1 + 1 ≤ length all)) → c < n
        by (inl e) = let ne = other i c e at in omega (arith, below.below i c at lt, ne)
        by (inr l) = by_next (slice_get (client_numbers s.clients) (i + 1)) refl
          where
            by_next : (o : Option ℕ) → slice_get (client_numbers s.clients) (i + 1) ≡ o → c < n
            by_next (Some d) at_d = omega (arith, earlier (client_numbers s.clients) i (i + 1) c d rising at at_d (omega arith), below.below (i + 1) d at_d (omega arith))
            by_next None at_d = absurd (omega (arith, below.count, l, beyond (client_numbers s.clients) (i + 1) at_d))

    nobody : Contains (client_numbers s.clients) n → ⊥
    nobody has = by (below_or_not has.0 (length all))
      where
        at : slice_get (client_numbers s.clients) has.0 ≡ Some n
        at = there (client_numbers s.clients) n has

        below_or_not : (a b : ℕ) → (a < b) ⊎ (b ≤ a)
        below_or_not a b = grind arith

        by : ((has.0 < length all) ⊎ (length all ≤ has.0)) → ⊥
        by (inl l) = omega (arith, less has.0 n at l)
        by (inr l) = omega (arith, below.above has.0 n at l)

-- all clients of the scene, where the passes are enough
pub all_below : (s : Scene) (n : ℕ) (ks : List ClientState) → AreOpening s (client_numbers s.clients) ks → IsEnough s n → AreBelow s n ks
all_below s n ks drivers enough = record {
  count = omega (arith, drivers.number);
  each = drivers.each;
  below = λ i c at lt. omega (arith, enough.clients i 0 (slice_get_within (client_numbers s.clients) i c at), get_or_from_slice_get (client_numbers s.clients) i c 0 at);
  above = λ i c at le. absurd (omega (arith, slice_get_within (client_numbers s.clients) i c at, drivers.number, le));
}

-- a client at the opening stands by its new pass
first_rests : (cs : List Command) → is_at_rest (first_phase cs) ≡ true
first_rests [] = refl
first_rests (c ∷ cs) = refl

pub stands_opened : (s : Scene) (id : LockId) (t : Token Scene Entry) (k : ClientState) (c : ℕ) → IsOpening s c k → t ≡ new_token id s (c + 1) → Contains (client_numbers s.clients) c → Stands t k c
stands_opened s id t k c opening is there = subst (λ (x : Token Scene Entry). Stands x k c) (sym is) (record {
  base = ap Some (sym opening.scene);
  context = refl;
  seated = record {
    numbered = opening.numbered;
    fits = record { scene = refl; part = opening.part ∙ λ i. opening_part (commands_of (sym opening.scene i) (sym opening.numbered i)) };
    there = subst (λ (x : Scene). Contains (client_numbers x.clients) c) (sym opening.scene) there;
  };
  living = opening.living;
  rests = ap (λ p. is_at_rest p.phase) opening.part ∙ first_rests (commands_of s c);
})

pub other_last : (s : Scene) (n count : ℕ) (all : List ClientState) (p : ClientScript) → AllPairs ◌<◌ (client_numbers s.clients) → AreBelow s (n + 1) all → count ≡ length all → slice_get s.clients (count - 1) ≡ Some p → p.number ≢ n
    → AreBelow s n all × (Contains (client_numbers s.clients) n → ⊥)
other_last s n count all p rising below long at ne = none_below s n all rising below other
  where
    other : (i c : ℕ) → i + 1 ≡ length all → slice_get (client_numbers s.clients) i ≡ Some c → c ≢ n
    other i c e at_i =
        let same : count - 1 ≡ i = omega (arith, long, e) in
        let is : p.number ≡ c = same_Some _ _ (sym (number_at s.clients (count - 1) p at) ∙ (ap (slice_get (client_numbers s.clients)) same ∙ at_i)) in λ h. ne (is ∙ h)

pub popped_last : (s : Scene) (n count : ℕ) (all ks : List ClientState) (o : Option ClientState) (p : ClientScript) → AllPairs ◌<◌ (client_numbers s.clients) → AreBelow s (n + 1) all → count ≡ length all → slice_get s.clients (count - 1) ≡ Some p → p.number ≡ n → all ≡ ks ++ option_to_list o
    → IfSome o (λ k. AreBelow s n ks × IsOpening s n k × Contains (client_numbers s.clients) n)
popped_last s n count all ks None p rising below long at is items = tt
popped_last s n count all ks (Some k) p rising below long at is items = (parts.0, parts.1, (length ks, slice_get_within (client_numbers s.clients) (length ks) n there_n, get_or_from_slice_get (client_numbers s.clients) (length ks) n n there_n))
  where
    same : count - 1 ≡ length ks
    same = omega (arith, long, ap length items, length-append ks (k ∷ []))

    there_n : slice_get (client_numbers s.clients) (length ks) ≡ Some n
    there_n = ap (slice_get (client_numbers s.clients)) (sym same) ∙ (number_at s.clients (count - 1) p at ∙ ap Some is)

    parts : AreBelow s n ks × IsOpening s n k
    parts = last_below s n all ks k rising below items there_n

-- a client's number is 1 to 32
pub number_in_range : (s : Scene) (i : ℕ) (p : ClientScript) → InRange s → slice_get s.clients i ≡ Some p → IsNumber p.number
number_in_range s i p good at = subst (λ (q : ClientScript). IsNumber q.number) (get_or_from_slice_get s.clients i p p at) (good.scripted.each i p (slice_get_within s.clients i p at)).numbered

pub number_within : (s : Scene) (c : ℕ) → InRange s → Contains (client_numbers s.clients) c → IsNumber c
number_within s c good has = by (slice_get s.clients has.0) refl
  where
    by : (o : Option ClientScript) → slice_get s.clients has.0 ≡ o → IsNumber c
    by (Some p) at = subst IsNumber (same_Some _ _ (sym (number_at s.clients has.0 p at) ∙ there (client_numbers s.clients) c has)) (number_in_range s has.0 p good at)
    by None at = absurd (omega (arith, has.1, length-map s.clients (λ (q : ClientScript). q.number), beyond s.clients has.0 at))

pub number_below : (s : Scene) (n c : ℕ) → IsEnough s n → Contains (client_numbers s.clients) c → c < n
number_below s n c enough has = subst (λ m. m < n) has.2 (enough.clients has.0 c has.1)

-- one pass more than the greatest number
pub last_enough : (s : Scene) (count : ℕ) (p : ClientScript) → InRange s → count ≡ length s.clients → slice_get s.clients (count - 1) ≡ Some p → IsEnough s (p.number + 1)
last_enough s count p good long at = record {
  server = omega arith;
  clients = λ i d below. by i d below (last_or_not (i + 1) count (omega (arith, below, long, length-map s.clients (λ (q : ClientScript). q.number))));
}
  where
    last_or_not : (a b : ℕ) → a ≤ b → (a ≡ b) ⊎ (a + 1 ≤ b)
    last_or_not a b l = grind arith

    at_last : slice_get (client_numbers s.clients) (count - 1) ≡ Some p.number
    at_last = number_at s.clients (count - 1) p at

    by : (i d : ℕ) → i < length (client_numbers s.clients) → ((i + 1 ≡ count) ⊎ (i + 1 + 1 ≤ count)) → get_or (client_numbers s.clients) i d < p.number + 1
    by i d below (inl e) =
        let same : count - 1 ≡ i = omega (arith, e) in
        let is : p.number ≡ get_or (client_numbers s.clients) i d = same_Some _ _ (sym at_last ∙ (ap (slice_get (client_numbers s.clients)) same ∙ slice_get-get_or (client_numbers s.clients) i d below)) in
        omega (arith, is)
    by i d below (inr l) =
        let less = earlier (client_numbers s.clients) i (count - 1) (get_or (client_numbers s.clients) i d) p.number good.scripted.rising (slice_get-get_or (client_numbers s.clients) i d below) at_last (omega (arith, l)) in
        omega (arith, less)

module _ {G : Type 0} {g : Ghosts G Scene Entry} where
  -- the last of some new passes, and the others
  pub new_last : (id : LockId) (s : Scene) (all ps : List (Pass G Scene Entry g)) (p : Pass G Scene Entry g) → all ≡ ps ++ p ∷ [] → AreNew id s 1 all → (pass_token p ≡ new_token id s (length ps + 1)) × AreNew id s 1 ps × (length all ≡ length ps + 1)
  new_last id s all ps p is new = (
    (new (length ps) p (ap (λ l. get_elem? l (length ps)) is ∙ at_length ps p)).0,
    (λ k q at. new k q (ap (λ l. get_elem? l k) is ∙ at_before ps (p ∷ []) k q at)),
    ap length is ∙ length-append ps (p ∷ []),
  )

  -- no pass is back
  pub served_none : (s : Scene) (id : LockId) (ps : List (Pass G Scene Entry g)) → length ps ≡ 0 → AreServed s id (length ps) false ps
  served_none s id [] none = record { count = refl; each = λ j p at. absurd (grind arith) }
  served_none s id (p ∷ ps) none = absurd (omega arith)

  served_short : (s : Scene) (id : LockId) (n : ℕ) (short : Bool) (ps : List (Pass G Scene Entry g)) → AreServed s id n short ps → AreServed s id n true ps
  served_short s id n short ps all = record {
    count = all.count;
    each = λ j p at. let v = all.each j p at in record { of = v.of; context = v.context; made = λ e. absurd (cc); done = λ e. absurd (cc) };
  }

  served_more : (s : Scene) (id : LockId) (n : ℕ) (short : Bool) (ps : List (Pass G Scene Entry g)) (p : Pass G Scene Entry g) → AreServed s id n short ps → IsServed s id n short p → AreServed s id (n + 1) short (ps ++ p ∷ [])
  served_more s id n short ps p all one = record {
    count = length-append ps (p ∷ []) ∙ ap (λ m. m + 1) all.count;
    each = λ j q at. by j q (at_end ps p q j at);
  }
    where
      by : (j : ℕ) (q : Pass G Scene Entry g) → (get_elem? ps j ≡ some q) ⊎ ((p ≡ q) × (j ≡ length ps)) → IsServed s id j short q
      by j q (inl at) = all.each j q at
      by j q (inr last) = subst (λ (x : ℕ × Pass G Scene Entry g). IsServed s id x.0 short x.1) (λ i. (sym (last.1 ∙ all.count) i, last.0 i)) one

-- what one more actor gave back, whose new pass was the last of all
module _ {G S : Type 0} {g : Ghosts G Scene Entry} (pass_of : S → Pass G Scene Entry g) (id : LockId) (s : Scene) (all ps : List (Pass G Scene Entry g)) (p : Pass G Scene Entry g) (is : all ≡ ps ++ p ∷ []) (new : AreNew id s 1 all) where
  last : (pass_token p ≡ new_token id s (length ps + 1)) × AreNew id s 1 ps × (length all ≡ length ps + 1)
  last = new_last id s all ps p is new

  lock_is : (pass_token p).lock ≡ id
  lock_is = ap (λ (t : Token Scene Entry). t.lock) last.0

  context_is : (pass_token p).context ≡ length ps + 1
  context_is = ap (λ (t : Token Scene Entry). t.context) last.0

  pub served_back : (r : Result (Pass G Scene Entry g) S) (before short : Bool) (rest out : List (Pass G Scene Entry g)) → IfOk r (λ q. IsSuccessor (pass_token p) (pass_token q))
      → IfOk r (λ q. length ps ≡ 0 → (after s (pass_token q).seen).made ≡ length s.changes)
      → IfOk r (λ q. 0 < length ps → Contains (client_numbers s.clients) (length ps) → is_done ((after s (pass_token q).seen).client (length ps)).phase ≡ true)
      → IfErr r (λ e. IsSuccessor (pass_token p) (pass_token (pass_of e))) → AreServed s id (length ps) before rest
      → IfOk r (λ q. (out ≡ rest ++ q ∷ []) × (short ≡ before)) → IfErr r (λ e. (out ≡ rest ++ pass_of e ∷ []) × (short ≡ true)) → AreServed s id (length all) short out
  served_back (Ok q) before short rest out next made done gave served ok err =
      subst (λ (x : ℕ × Bool × List (Pass G Scene Entry g)). AreServed s id x.0 x.1 x.2) (λ i. (sym last.2 i, sym ok.1 i, sym ok.0 i))
      (served_more s id (length ps) before rest q served (record { of = next.lock ∙ lock_is; context = next.context ∙ context_is; made = λ _. made; done = λ _. done }))
  served_back (Err e) before short rest out next made done gave served ok err =
      subst (λ (x : ℕ × Bool × List (Pass G Scene Entry g)). AreServed s id x.0 x.1 x.2) (λ i. (sym last.2 i, sym err.1 i, sym err.0 i))
      (served_more s id (length ps) true rest (pass_of e) (served_short s id (length ps) before rest served) (record { of = gave.lock ∙ lock_is; context = gave.context ∙ context_is; made = λ f. absurd (cc); done = λ f. absurd (cc) }))

-- a weaker fact of an answer
pub weaker : {A E : Type 0} {P Q : A → Type 0} (r : Result A E) → IfOk r P → ((a : A) → P a → Q a) → IfOk r Q
weaker (Ok a) p f = f a p
weaker (Err e) p f = tt
