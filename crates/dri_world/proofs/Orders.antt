-- The order of a group: who stands at which place, who comes within reach, and the first who is live.
use Rattle.std.proofs.Common.{◌≡◌, ◌≤◌, ◌<◌, ◌+◌, ℕ, zero, suc, List, [], ◌∷◌, ◌++◌, Bool, true, false, Some, None, length, get_or, drop, arith, refl, sym, ap, ◌∙◌, subst, drop-cons, length-append}
use Rattle.std.specs.Prelude.{◌==◌, ◌||◌, Contains}
use Rattle.std.specs.List.{list_any}
use Rattle.std.proofs.lemmas.Bool.{true≢false}
use Rattle.std.proofs.lemmas.Bool.Decides.{nat_tests}
use Rattle.std.proofs.Math.Seq.{drop-append_seam, drop-length}
use Rattle.dri_core.specs.Worlds.{World}
use Rattle.dri_many.specs.declared.grouping.Grouping.{Grouping}
use Rattle.dri_world.specs.Currents.{current_at, in_rounds, is_over, live_place, reach}
use Rattle.dri_world.specs.Seats.{GoesFrom, next_place, order_of}

-- who is ahead after so many places
abbrev rest : List ℕ → List ℕ → ℕ → List ℕ
rest first members zero = first
rest [] [] (suc k) = []
rest [] (m ∷ ms) (suc k) = rest ms (m ∷ ms) k
rest (c ∷ first) members (suc k) = rest first members k

-- the order goes on as one in which they come first
on_from : (first members : List ℕ) (n k : ℕ) → in_rounds first members (n + k) ≡ in_rounds (rest first members n) members k
on_from first members zero k = let e : 0 + k ≡ k = omega arith in ap (in_rounds first members) e
on_from [] [] (suc n) k = refl
on_from [] (m ∷ ms) (suc n) k = let e : suc n + k ≡ suc (n + k) = omega arith in ap (in_rounds [] (m ∷ ms)) e ∙ on_from ms (m ∷ ms) n k
on_from (c ∷ first) members (suc n) k = let e : suc n + k ≡ suc (n + k) = omega arith in ap (in_rounds (c ∷ first) members) e ∙ on_from first members n k

-- and they are no more than that
rest_length : (first members : List ℕ) (n bound : ℕ) → length first ≤ bound → length members ≤ bound → length (rest first members n) ≤ bound
rest_length first members zero bound l r = l
rest_length [] [] (suc n) bound l r = l
rest_length [] (m ∷ ms) (suc n) bound l r = rest_length ms (m ∷ ms) n bound (omega (arith, r)) r
rest_length (c ∷ first) members (suc n) bound l r = rest_length first members n bound (omega (arith, l)) r

-- who comes first stands at its place
at_first : (first members : List ℕ) (j d : ℕ) → j < length first → in_rounds first members j ≡ get_or first j d
at_first [] members j d l = absurd (omega (arith, l))
at_first (c ∷ first) members zero d l = refl
at_first (c ∷ first) members (suc j) d l = at_first first members j d (omega (arith, l))

-- behind them stand the members
pub at_member : (first members : List ℕ) (j d : ℕ) → j < length members → in_rounds first members (length first + j) ≡ get_or members j d
at_member [] [] j d l = absurd (omega (arith, l))
at_member [] (m ∷ ms) zero d l = let e : 0 + 0 ≡ 0 = omega arith in ap (in_rounds [] (m ∷ ms)) e
at_member [] (m ∷ ms) (suc j) d l = let e : 0 + suc j ≡ suc j = omega arith in ap (in_rounds [] (m ∷ ms)) e ∙ at_first ms (m ∷ ms) j d (omega (arith, l))
at_member (c ∷ first) members j d l = let e : suc (length first) + j ≡ suc (length first + j) = omega arith in ap (in_rounds (c ∷ first) members) e ∙ at_member first members j d l

-- the members come again as they come first
again : (members : List ℕ) (k : ℕ) → in_rounds [] members k ≡ in_rounds members members k
again [] k = refl
again (m ∷ ms) zero = refl
again (m ∷ ms) (suc k) = refl

append_members : (first members : List ℕ) (k : ℕ) → in_rounds first members k ≡ in_rounds (first ++ members) members k
append_members [] members k = again members k
append_members (c ∷ first) members zero = refl
append_members (c ∷ first) members (suc k) = append_members first members k

-- a member comes within reach
pub record ComesWithin (g : Grouping) (place m : ℕ) : Type 0 where
  pub at : ℕ
  pub later : place ≤ at
  pub near : at < place + reach g
  pub is : current_at g at ≡ m

pub comes : (g : Grouping) (place m : ℕ) → Contains g.members m → ComesWithin g place m
comes g place m (j, l, e) = record {
  at = place + (length ahead + j);
  later = omega arith;
  near = let short = rest_length g.currents g.members place (length g.currents + length g.members) (omega arith) (omega arith) in omega (arith, l, short);
  is = on_from g.currents g.members place (length ahead + j) ∙ at_member ahead g.members j m l ∙ e;
}
  where
    ahead : List ℕ
    ahead = rest g.currents g.members place

-- the test of a member
pub member_there : (ms : List ℕ) (c : ℕ) → list_any (λ m. m == c) ms ≡ true → Contains ms c
member_there [] c e = absurd (true≢false (sym e))
member_there (m ∷ ms) c e = by_name (m == c) refl (member_there ms c)
  where
    by_name : (b : Bool) → (m == c) ≡ b → (list_any (λ m. m == c) ms ≡ true → Contains ms c) → Contains (m ∷ ms) c
    by_name true n later = (0, omega arith, grind (arith, nat_tests))
    by_name false n later = let r = later (rw n at e) in (suc r.0, omega (arith, r.1), r.2)

pub there_member : (ms : List ℕ) (c : ℕ) → Contains ms c → list_any (λ m. m == c) ms ≡ true
there_member [] c (j, l, e) = absurd (omega (arith, l))
there_member (m ∷ ms) c (zero, l, e) = let same : (m == c) ≡ true = grind (arith, nat_tests, e) in rw same refl
there_member (m ∷ ms) c (suc j, l, e) = rw (there_member ms c (j, omega (arith, l), e)) (or_true (m == c))
  where
    or_true : (b : Bool) → (b || true) ≡ true
    or_true true = refl
    or_true false = refl

-- who stands at a place is a member, where the currents are and there is one
stands_there : (P : ℕ → Type 0) (first members : List ℕ) (k : ℕ) → ((c : ℕ) → Contains first c → P c) → ((c : ℕ) → Contains members c → P c) → 0 < length members → P (in_rounds first members k)
stands_there P [] [] k f m l = absurd (omega (arith, l))
stands_there P [] (x ∷ ms) zero f m l = m x (0, omega arith, refl)
stands_there P [] (x ∷ ms) (suc k) f m l = stands_there P ms (x ∷ ms) k (λ c h. m c (suc h.0, omega (arith, h.1), h.2)) m l
stands_there P (x ∷ first) members zero f m l = f x (0, omega arith, refl)
stands_there P (x ∷ first) members (suc k) f m l = stands_there P first members k (λ c h. f c (suc h.0, omega (arith, h.1), h.2)) m l

-- a group that has a member, and whose currents are members
pub record IsGood (g : Grouping) : Type 0 where
  pub some : 0 < length g.members
  pub led : (c : ℕ) → Contains g.currents c → Contains g.members c

pub stands_member : (g : Grouping) (k : ℕ) → IsGood g → Contains g.members (current_at g k)
stands_member g k good = stands_there (Contains g.members) g.currents g.members k good.led (λ c h. h) good.some

-- the first live place
pub record IsFirstLive (g : Grouping) (w : World) (from place : ℕ) : Type 0 where
  pub later : from ≤ place
  pub live : is_over w (current_at g place) ≡ false
  pub over : (n : ℕ) → from ≤ n → n < place → is_over w (current_at g n) ≡ true

some_same : {a b : ℕ} → Some a ≡ Some b → a ≡ b
some_same e = cc

none_some : {a : ℕ} → None ≡ Some a → ⊥
none_some e = grind arith

pub live_is : (g : Grouping) (w : World) (from fuel place : ℕ) → live_place g w from fuel ≡ Some place → IsFirstLive g w from place
live_is g w from zero place e = absurd (none_some e)
live_is g w from (suc fuel) place e = by_life (is_over w (current_at g from)) refl (live_is g w (from + 1) fuel place)
  where
    by_life : (b : Bool) → is_over w (current_at g from) ≡ b → (live_place g w (from + 1) fuel ≡ Some place → IsFirstLive g w (from + 1) place) → IsFirstLive g w from place
    by_life false b next =
        let same : from ≡ place = some_same (rw b at e) in
        record { later = omega (arith, same); live = subst (λ n. is_over w (current_at g n) ≡ false) same b; over = λ n l r. absurd (omega (arith, l, r, same)) }
    by_life true b next = let n = next (rw b at e) in record { later = omega (arith, n.later); live = n.live; over = over_from n }
      where
        over_from : IsFirstLive g w (from + 1) place → (n : ℕ) → from ≤ n → n < place → is_over w (current_at g n) ≡ true
        over_from rest zero l r = let e : from ≡ 0 = omega (arith, l) in subst (λ m. is_over w (current_at g m) ≡ true) e b
        over_from rest (suc n) l r = by_first (from == suc n) refl
          where
            by_first : (x : Bool) → (from == suc n) ≡ x → is_over w (current_at g (suc n)) ≡ true
            by_first true x = let e : from ≡ suc n = grind (arith, nat_tests) in subst (λ m. is_over w (current_at g m) ≡ true) e b
            by_first false x = let ne : (from ≡ suc n) → ⊥ = grind (arith, nat_tests) in rest.over (suc n) (omega (arith, l, ne)) r

pub is_live : (g : Grouping) (w : World) (from fuel place : ℕ) → IsFirstLive g w from place → place < from + fuel → live_place g w from fuel ≡ Some place
is_live g w from zero place first near = absurd (let l = first.later in omega (arith, l, near))
is_live g w from (suc fuel) place first near = by_life (is_over w (current_at g from)) refl (is_live g w (from + 1) fuel place)
  where
    here : (is_over w (current_at g from) ≡ false) → from ≡ place
    here b = by_order (from == place) refl
      where
        by_order : (x : Bool) → (from == place) ≡ x → from ≡ place
        by_order true x = grind (arith, nat_tests)
        by_order false x =
            let ne : (from ≡ place) → ⊥ = grind (arith, nat_tests) in
            let l = first.later in
            absurd (true≢false (sym (first.over from (omega arith) (omega (arith, l, ne))) ∙ b))

    by_life : (b : Bool) → is_over w (current_at g from) ≡ b → (IsFirstLive g w (from + 1) place → place < (from + 1) + fuel → live_place g w (from + 1) fuel ≡ Some place) → live_place g w from (suc fuel) ≡ Some place
    by_life false b next = rw b (ap Some (here b))
    by_life true b next = rw b (next (record { later = behind; live = first.live; over = λ n l r. first.over n (omega (arith, l)) r }) (omega (arith, near)))
      where
        behind : from + 1 ≤ place
        behind = by_order (from == place) refl
          where
            by_order : (x : Bool) → (from == place) ≡ x → from + 1 ≤ place
            by_order true x =
                let e : from ≡ place = grind (arith, nat_tests) in
                absurd (true≢false (sym b ∙ ap (λ n. is_over w (current_at g n)) e ∙ first.live))
            by_order false x = let ne : (from ≡ place) → ⊥ = grind (arith, nat_tests) in let l = first.later in omega (arith, l, ne)

-- where there is none, all within reach are over
none_live : (g : Grouping) (w : World) (from fuel : ℕ) → live_place g w from fuel ≡ None → (n : ℕ) → from ≤ n → n < from + fuel → is_over w (current_at g n) ≡ true
none_live g w from zero e n l r = absurd (omega (arith, l, r))
none_live g w from (suc fuel) e n l r = by_life (is_over w (current_at g from)) refl (none_live g w (from + 1) fuel)
  where
    some_none : {a : ℕ} → Some a ≡ None → ⊥
    some_none h = grind arith

    by_life : (b : Bool) → is_over w (current_at g from) ≡ b → (live_place g w (from + 1) fuel ≡ None → (m : ℕ) → from + 1 ≤ m → m < (from + 1) + fuel → is_over w (current_at g m) ≡ true) → is_over w (current_at g n) ≡ true
    by_life false b next = absurd (some_none (rw b at e))
    by_life true b next = by_first (from == n) refl
      where
        by_first : (x : Bool) → (from == n) ≡ x → is_over w (current_at g n) ≡ true
        by_first true x = let same : from ≡ n = grind (arith, nat_tests) in subst (λ m. is_over w (current_at g m) ≡ true) same b
        by_first false x = let ne : (from ≡ n) → ⊥ = grind (arith, nat_tests) in next (rw b at e) n (omega (arith, l, ne)) (omega (arith, r))

-- where there is none, all members are over
pub none_left : (g : Grouping) (w : World) (from m : ℕ) → live_place g w from (reach g) ≡ None → Contains g.members m → is_over w m ≡ true
none_left g w from m e there =
    let x = comes g from m there in
    let over = none_live g w from (reach g) e x.at x.later x.near in
    subst (λ n. is_over w n ≡ true) x.is over

-- the first live place is within reach
pub live_near : (g : Grouping) (w : World) (from place : ℕ) → IsGood g → IsFirstLive g w from place → live_place g w from (reach g) ≡ Some place
live_near g w from place good first =
    let x = comes g from (current_at g place) (stands_member g place good) in
    is_live g w from (reach g) place first (near x)
  where
    near : ComesWithin g from (current_at g place) → place < from + reach g
    near x = by_order (no_later x)
      where
        no_later : ComesWithin g from (current_at g place) → (x.at < place → ⊥)
        no_later y l = true≢false (sym (first.over x.at x.later l) ∙ ap (is_over w) x.is ∙ first.live)

        by_order : (x.at < place → ⊥) → place < from + reach g
        by_order ne = let n = x.near in omega (arith, ne, n)

-- where all members are over there is none
pub none_where_over : (g : Grouping) (w : World) (from fuel : ℕ) → IsGood g → ((m : ℕ) → Contains g.members m → is_over w m ≡ true) → live_place g w from fuel ≡ None
none_where_over g w from zero good all = refl
none_where_over g w from (suc fuel) good all = rw (all (current_at g from) (stands_member g from good)) (none_where_over g w (from + 1) fuel good all)

-- the list that is gone round
pub starts : (g : Grouping) → 0 < length g.members → GoesFrom g 0 0
starts g some = record {
  inside = let l = length-append g.currents g.members in omega (arith, some, l);
  ahead = λ n. let e : 0 + n ≡ n = omega arith in ap (current_at g) e ∙ append_members g.currents g.members n;
}

pub stands_at : (g : Grouping) (k q : ℕ) → GoesFrom g k q → current_at g k ≡ get_or (order_of g) q 0
stands_at g k q from =
    let e : k ≡ k + 0 = omega arith in
    let cons = drop-cons (order_of g) q 0 from.inside in
    ap (current_at g) e ∙ from.ahead 0 ∙ ap (λ xs. in_rounds xs g.members 0) cons

pub goes_on : (g : Grouping) (k q : ℕ) → 0 < length g.members → GoesFrom g k q → GoesFrom g (k + 1) (next_place g q)
goes_on g k q some from = by_last (q + 1 == length (order_of g)) refl
  where
    one_on : (n : ℕ) → current_at g ((k + 1) + n) ≡ in_rounds (drop (q + 1) (order_of g)) g.members n
    one_on n =
        let e : (k + 1) + n ≡ k + suc n = omega arith in
        let f : suc q ≡ q + 1 = omega arith in
        ap (current_at g) e ∙ from.ahead (suc n) ∙ ap (λ xs. in_rounds xs g.members (suc n)) (drop-cons (order_of g) q 0 from.inside) ∙ ap (λ m. in_rounds (drop m (order_of g)) g.members n) f

    by_last : (b : Bool) → (q + 1 == length (order_of g)) ≡ b → GoesFrom g (k + 1) (next_place g q)
    by_last false b = rw b (record { inside = let i = from.inside in let ne : (q + 1 ≡ length (order_of g)) → ⊥ = grind (arith, nat_tests) in omega (arith, i, ne); ahead = one_on })
    by_last true b = rw b (record { inside = short; ahead = λ n. one_on n ∙ ap (λ m. in_rounds (drop m (order_of g)) g.members n) last ∙ ap (λ xs. in_rounds xs g.members n) (drop-length (order_of g)) ∙ again g.members n ∙ ap (λ xs. in_rounds xs g.members n) (sym (drop-append_seam g.currents g.members)) })
      where
        last : q + 1 ≡ length (order_of g)
        last = grind (arith, nat_tests)

        short : length g.currents < length (order_of g)
        short = let l = length-append g.currents g.members in omega (arith, l, some)
