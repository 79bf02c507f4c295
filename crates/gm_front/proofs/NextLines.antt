-- A command that is handed in after one that is perhaps still to be settled.
use Rattle.gm_front.proofs.Common.{◌≡◌, ◌∙◌, inl, inr, ℕ, List, [], Ok, Err, Result, refl, sym, subst, IsErrAnd, IfErr, Ghosts, Held, Image, Command, World, Answer, Progress, TakesCommands, IsAt, LeavesOnly, IsHandedIn, LeavesNext, one_call, Stands, then_only, stands_rest, IsAnsweredNext}
use Rattle.gm_shelf.specs.declared.shelf.Shelf.{Ghosts as ShelfGhosts}
use Rattle.gm_bench.specs.declared.answer.Answer.TheVariants.{Done, Repeated, Refused}

-- what `?` passes on is told of the fault that it was given
pub passed_on : {T E : Type 0} (P : E → Type 0) (r : Result T E) (given : E)
    → IsErrAnd r (λ x. x ≡ given) → P given → IfErr r P
passed_on P (Ok x) given passed p = tt
passed_on P (Err x) given passed p = subst P (sym passed) p

module _ {S H : Type 0} (g : Ghosts S) (j : ShelfGhosts H) where
  module _ (q : Progress) (r mid : Held S) (h k : H) (away : Image) (v u : World) (key : List ℕ)
      (c : Command) where
    -- the next one settles it
    pub kept_waiting : (a : Answer) → IsHandedIn g j q r mid h k away v u key c a
        → IsAnsweredNext g j q mid k away v u key c a
    kept_waiting (Done n reply) it =
        record { world = it.0; before = u; calls = it.1; waits = inr refl; stands = it.3 }
    kept_waiting (Repeated n reply) it =
        record { world = u; before = v; calls = it.0; waits = inr refl; stands = it.2 }
    kept_waiting (Refused why) it =
        record { world = u; before = v; calls = it.0; waits = inr refl; stands = it.2 }

    -- it is settled
    pub settled_next : (p : Progress) (s : Held S) (l : H) (a : Answer)
        → IsHandedIn g j q r mid h k away v u key c a → TakesCommands p
        → ((x w : World) → Stands g j q mid k away x w
        → IsAt g j s l away [] [] w w) → IsAnsweredNext g j p s l away v u key c a
    settled_next p s l (Done n reply) it takes settles = record {
      world = it.0;
      before = it.0;
      calls = it.1;
      waits = inl refl;
      stands = stands_rest g j p s l away it.0 takes (settles u it.0 it.3);
    }
    settled_next p s l (Repeated n reply) it takes settles = record {
      world = u;
      before = u;
      calls = it.0;
      waits = inl refl;
      stands = stands_rest g j p s l away u takes (settles v u it.2);
    }
    settled_next p s l (Refused why) it takes settles = record {
      world = u;
      before = u;
      calls = it.0;
      waits = inl refl;
      stands = stands_rest g j p s l away u takes (settles v u it.2);
    }

    -- it couldn't be settled
    pub unsettled_next : (s : Held S) (l : H) (a : Answer)
        → IsHandedIn g j q r mid h k away v u key c a → j.size k ≡ j.size h → l ≡ k
        → ((x w : World) → Stands g j q mid k away x w
        → LeavesOnly g j mid s k l away x w)
        → LeavesNext g j r s h l away v u (one_call key c)
    unsettled_next s l (Done n reply) it sizes same settling = inl (record {
      registry = it.2.registry;
      shelf = it.2.shelf;
      sizes = it.2.sizes;
      accepting = it.2.accepting;
      carrying = inr (
        it.0,
        (it.0, reply, it.1.3, refl),
        it.2.pending,
        then_only g j it.2.registry mid s it.2.shelf k l away u it.0 same
            (sizes ∙ sym it.2.sizes) it.2.carrying (settling u it.0 it.3),
      );
    })
    unsettled_next s l (Repeated n reply) it sizes same settling = inr (record {
      registry = mid;
      shelf = k;
      sizes = sizes;
      accepting = it.1;
      settling = settling v u it.2;
    })
    unsettled_next s l (Refused why) it sizes same settling = inr (record {
      registry = mid;
      shelf = k;
      sizes = sizes;
      accepting = it.1;
      settling = settling v u it.2;
    })
