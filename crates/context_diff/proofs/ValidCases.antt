-- Small sessions are valid: each operation may be integrated after those before it. And what breaks a rule is refused.
use Rattle.std.proofs.Common.{◌≡◌, ℕ, zero, suc, true, false, List, [], ◌∷◌, ap, refl, arith, lit<, lit≤, subst, ◌∙◌}
use Rattle.std.specs.Char.{IsScalar}
use Rattle.std.proofs.lemmas.Bool.{false≢true}
use Rattle.std.specs.Prelude.{Contains, ◌&&◌}
use Rattle.std.proofs.lemmas.Bool.Decides.{nat_tests}
use Rattle.op_name.specs.declared.member.Member.{Member}
use Rattle.op_name.specs.declared.member.Member.TheVariants.{Original, Group}
use Rattle.op_name.specs.Members.{member_lt}
use Rattle.context_vector.specs.Contexts.{ContextData, HasNoStray, Within, has}
use Rattle.context_diff.specs.Operations.{OpData, inserting, deleting, undoing, context_of, IsLetters}
use Rattle.context_diff.specs.Histories.{IsValid, LacksNothing, LacksFirst, IsClosed, CoversSite, HasPlace, is_known}
use Rattle.context_diff.proofs.WorkedCases.{name, after, after_undos, abc, tie, typed, word_typed_backwards_reversed, undone_and_redone, both_deletes_undone, run_split}

-- a context without undo entries names no group
no_stray : (counts : List (ℕ × ℕ)) → HasNoStray (after counts)
no_stray counts n g e = grind (arith, nat_tests)

-- the empty context lacks nothing in any history
nothing_lacks : (h : List OpData) → LacksNothing h (after [])
nothing_lacks h (Original n) e = grind (arith, nat_tests)
nothing_lacks h (Group n g) e = grind (arith, nat_tests)

-- the empty context is within every context
nothing_within : (c : ContextData) → Within (after []) c
nothing_within c (Original n) e = grind (arith, nat_tests)
nothing_within c (Group n g) e = grind (arith, nat_tests)

-- all contexts of a history are within this one
EachWithin : List OpData → ContextData → Type 0
EachWithin [] c = Unit {0}
EachWithin (o ∷ os) c = Within (context_of o) c × EachWithin os c

within_at : (h : List OpData) (c : ContextData) → EachWithin h c → (o : OpData) → Contains h o → Within (context_of o) c
unfolding EachWithin
within_at [] c each o (k, below, is) = absurd (omega arith)
within_at (x ∷ xs) c each o (zero, below, is) = subst (λ y. Within (context_of y) c) is each.0
within_at (x ∷ xs) c each o (suc k, below, is) = within_at xs c each.1 o (k, omega arith, is)

-- then it is closed
closed_where : (h : List OpData) (c : ContextData) → EachWithin h c → IsClosed h c
closed_where h c each s o n in_h named site number = within_at h c each o in_h

typed_2_lacks_nothing : LacksNothing (inserting (name 0 1) 0 (97 ∷ []) (after []) ∷ []) (after ((0, 1) ∷ []))
typed_2_lacks_nothing (Original n) e = grind (arith, nat_tests)
typed_2_lacks_nothing (Group n g) e = grind (arith, nat_tests)

typed_3_lacks_nothing : LacksNothing
    (inserting (name 0 1) 0 (97 ∷ []) (after []) ∷ inserting (name 0 2) 1 (233 ∷ []) (after ((0, 1) ∷ [])) ∷ [])
    (after ((0, 2) ∷ []))
typed_3_lacks_nothing (Original n) e = grind (arith, nat_tests)
typed_3_lacks_nothing (Group n g) e = grind (arith, nat_tests)

within_0_1_0_2 : Within (after ((0, 1) ∷ [])) (after ((0, 2) ∷ []))
within_0_1_0_2 (Original n) e = grind (arith, nat_tests)
within_0_1_0_2 (Group n g) e = grind (arith, nat_tests)

word_typed_backwards_reversed_4_lacks_nothing : LacksNothing
    (inserting (name 3 1) 0 (110 ∷ []) (after []) ∷ inserting (name 1 1) 0 (109 ∷ []) (after []) ∷ inserting (name 2 1) 0 (120 ∷ [])
    (after []) ∷ [])
    (after ((2, 1) ∷ []))
word_typed_backwards_reversed_4_lacks_nothing (Original n) e = grind (arith, nat_tests)
word_typed_backwards_reversed_4_lacks_nothing (Group n g) e = grind (arith, nat_tests)

abc_3_lacks_nothing : LacksNothing
    (inserting (name 0 1) 0 (97 ∷ []) (after []) ∷ inserting (name 0 2) 1 (98 ∷ []) (after ((0, 1) ∷ [])) ∷ [])
    (after ((0, 2) ∷ []))
abc_3_lacks_nothing (Original n) e = grind (arith, nat_tests)
abc_3_lacks_nothing (Group n g) e = grind (arith, nat_tests)

abc_4_lacks_nothing : LacksNothing (abc []) (after ((0, 3) ∷ []))
abc_4_lacks_nothing (Original n) e = grind (arith, nat_tests)
abc_4_lacks_nothing (Group n g) e = grind (arith, nat_tests)

undone_and_redone_5_lacks_nothing : LacksNothing (abc (undoing 0 (name 0 2) 1 (after ((0, 3) ∷ [])) ∷ []))
    (after_undos ((0, 3) ∷ []) ((name 0 2, 1) ∷ []))
undone_and_redone_5_lacks_nothing (Original n) e = grind (arith, nat_tests)
undone_and_redone_5_lacks_nothing (Group n g) e = grind (arith, nat_tests)

stray_0_3_undone_0_2_1 : HasNoStray (after_undos ((0, 3) ∷ []) ((name 0 2, 1) ∷ []))
stray_0_3_undone_0_2_1 n g e = grind (arith, nat_tests)

within_0_2_0_3 : Within (after ((0, 2) ∷ [])) (after ((0, 3) ∷ []))
within_0_2_0_3 (Original n) e = grind (arith, nat_tests)
within_0_2_0_3 (Group n g) e = grind (arith, nat_tests)

within_0_1_0_3 : Within (after ((0, 1) ∷ [])) (after ((0, 3) ∷ []))
within_0_1_0_3 (Original n) e = grind (arith, nat_tests)
within_0_1_0_3 (Group n g) e = grind (arith, nat_tests)

both_deletes_undone_5_lacks_nothing : LacksNothing (abc (deleting (name 0 4) 1 (after ((0, 3) ∷ [])) ∷ [])) (after ((0, 3) ∷ []))
both_deletes_undone_5_lacks_nothing (Original n) e = grind (arith, nat_tests)
both_deletes_undone_5_lacks_nothing (Group n g) e = grind (arith, nat_tests)

within_0_3_0_3 : Within (after ((0, 3) ∷ [])) (after ((0, 3) ∷ []))
within_0_3_0_3 (Original n) e = grind (arith, nat_tests)
within_0_3_0_3 (Group n g) e = grind (arith, nat_tests)

both_deletes_undone_6_lacks_nothing : LacksNothing
    (abc (deleting (name 0 4) 1 (after ((0, 3) ∷ [])) ∷ deleting (name 1 1) 1 (after ((0, 3) ∷ [])) ∷ [])) (after ((0, 4) ∷ (1, 1) ∷ []))
both_deletes_undone_6_lacks_nothing (Original n) e = grind (arith, nat_tests)
both_deletes_undone_6_lacks_nothing (Group n g) e = grind (arith, nat_tests)

both_deletes_undone_7_lacks_nothing : LacksNothing
    (abc (deleting (name 0 4) 1 (after ((0, 3) ∷ [])) ∷ deleting (name 1 1) 1 (after ((0, 3) ∷ [])) ∷ undoing 0 (name 0 4) 1
    (after ((0, 4) ∷ (1, 1) ∷ [])) ∷ [])) (after_undos ((0, 4) ∷ (1, 1) ∷ []) ((name 0 4, 1) ∷ []))
both_deletes_undone_7_lacks_nothing (Original n) e = grind (arith, nat_tests)
both_deletes_undone_7_lacks_nothing (Group n g) e = grind (arith, nat_tests)

stray_0_4_1_1_undone_0_4_1 : HasNoStray (after_undos ((0, 4) ∷ (1, 1) ∷ []) ((name 0 4, 1) ∷ []))
stray_0_4_1_1_undone_0_4_1 n g e = grind (arith, nat_tests)

first_of_two : (x : Member) → has (after ((0, 2) ∷ [])) x ≡ true → is_known [] x ≡ false → member_lt x (Original (name 0 1)) ≡ false
first_of_two (Original n) e f = grind (arith, nat_tests)
first_of_two (Group n g) e f = refl

first_is_the_group : (x : Member) → has (after_undos ((0, 1) ∷ []) ((name 0 1, 1) ∷ [])) x ≡ true
    → is_known (inserting (name 0 1) 0 (97 ∷ []) (after []) ∷ []) x ≡ false → member_lt x (Group (name 0 1) 1) ≡ false
first_is_the_group (Original n) e f = grind (arith, nat_tests)
first_is_the_group (Group n g) e f = grind (arith, nat_tests)

within_both : Within (after ((0, 1) ∷ [])) (after ((0, 1) ∷ (1, 1) ∷ []))
within_both (Original n) e = grind (arith, nat_tests)
within_both (Group n g) e = grind (arith, nat_tests)

-- one character is a text of an insert
one_letter : (ch : ℕ) → IsScalar ch → IsLetters (ch ∷ [])
one_letter ch scalar = record { some = lit≤ tt; most = lit≤ tt; scalars = ap (λ b. b && true) scalar }

-- three characters typed by one site
pub typed_is_valid : IsValid typed
unfolding EachWithin
typed_is_valid = (
  record {
    formed = record {
      in_range = ((lit< tt, lit≤ tt, lit≤ tt), lit≤ tt, one_letter _ refl, record { counts = tt; entries = tt }, lit≤ tt);
      own =
          refl;
      target = tt;
      stray = no_stray [];
    };
    new = refl;
    ready = nothing_lacks [];
    closed = λ e. closed_where [] (after []) tt;
    placed = lit≤ tt;
  },
  (
    record {
      formed = record {
        in_range = (
          (lit< tt, lit≤ tt, lit≤ tt),
          lit≤ tt,
          one_letter _ refl,
          record { counts = (lit≤ tt, lit< tt, lit≤ tt, lit≤ tt, tt); entries = tt },
          lit≤ tt,
        );
        own = refl;
        target = tt;
        stray =
            no_stray ((0, 1) ∷ []);
      };
      new = refl;
      ready = typed_2_lacks_nothing;
      closed = λ e. closed_where (inserting (name 0 1) 0 (97 ∷ []) (after []) ∷ []) (after ((0, 1) ∷ []))
          (nothing_within (after ((0, 1) ∷ [])), tt);
      placed = lit≤ tt;
    },
    (
      record {
        formed = record {
          in_range = (
            (lit< tt, lit≤ tt, lit≤ tt),
            lit≤ tt,
            one_letter _ refl,
            record { counts = (lit≤ tt, lit< tt, lit≤ tt, lit≤ tt, tt); entries = tt },
            lit≤ tt,
          );
          own = refl;
          target = tt;
          stray =
              no_stray ((0, 2) ∷ []);
        };
        new = refl;
        ready = typed_3_lacks_nothing;
        closed = λ e. closed_where (inserting (name 0 1) 0 (97 ∷ []) (after []) ∷ inserting (name 0 2) 1 (233 ∷ []) (after ((0, 1) ∷ [])) ∷
            [])
            (after ((0, 2) ∷ [])) (nothing_within (after ((0, 2) ∷ [])), (within_0_1_0_2, tt));
        placed = lit≤ tt;
      },
      tt,
    ),
  ),
)

-- two inserts at one place
pub tie_is_valid : IsValid tie
unfolding EachWithin
tie_is_valid = (
  record {
    formed = record {
      in_range = ((lit< tt, lit≤ tt, lit≤ tt), lit≤ tt, one_letter _ refl, record { counts = tt; entries = tt }, lit≤ tt);
      own =
          refl;
      target = tt;
      stray = no_stray [];
    };
    new = refl;
    ready = nothing_lacks [];
    closed = λ e. closed_where [] (after []) tt;
    placed = lit≤ tt;
  },
  (
    record {
      formed = record {
        in_range = ((lit< tt, lit≤ tt, lit≤ tt), lit≤ tt, one_letter _ refl, record { counts = tt; entries = tt }, lit≤ tt);
        own =
            refl;
        target = tt;
        stray = no_stray [];
      };
      new = refl;
      ready = nothing_lacks (inserting (name 1 1) 0 (112 ∷ []) (after []) ∷ []);
      closed = λ e. closed_where (inserting (name 1 1) 0 (112 ∷ []) (after []) ∷ []) (after []) (nothing_within (after []), tt);
      placed = lit≤ tt;
    },
    tt,
  ),
)

-- a word typed backwards, integrated after the inserts beside it
pub word_typed_backwards_reversed_is_valid : IsValid word_typed_backwards_reversed
unfolding EachWithin
word_typed_backwards_reversed_is_valid = (
  record {
    formed = record {
      in_range = ((lit< tt, lit≤ tt, lit≤ tt), lit≤ tt, one_letter _ refl, record { counts = tt; entries = tt }, lit≤ tt);
      own =
          refl;
      target = tt;
      stray = no_stray [];
    };
    new = refl;
    ready = nothing_lacks [];
    closed = λ e. closed_where [] (after []) tt;
    placed = lit≤ tt;
  },
  (
    record {
      formed = record {
        in_range = ((lit< tt, lit≤ tt, lit≤ tt), lit≤ tt, one_letter _ refl, record { counts = tt; entries = tt }, lit≤ tt);
        own =
            refl;
        target = tt;
        stray = no_stray [];
      };
      new = refl;
      ready = nothing_lacks (inserting (name 3 1) 0 (110 ∷ []) (after []) ∷ []);
      closed = λ e. closed_where (inserting (name 3 1) 0 (110 ∷ []) (after []) ∷ []) (after []) (nothing_within (after []), tt);
      placed = lit≤ tt;
    },
    (
      record {
        formed = record {
          in_range = ((lit< tt, lit≤ tt, lit≤ tt), lit≤ tt, one_letter _ refl, record { counts = tt; entries = tt }, lit≤ tt);
          own =
              refl;
          target = tt;
          stray = no_stray [];
        };
        new = refl;
        ready = nothing_lacks (inserting (name 3 1) 0 (110 ∷ []) (after []) ∷ inserting (name 1 1) 0 (109 ∷ []) (after []) ∷ []);
        closed = λ e. closed_where (inserting (name 3 1) 0 (110 ∷ []) (after []) ∷ inserting (name 1 1) 0 (109 ∷ []) (after []) ∷ [])
            (after [])
            (nothing_within (after []), (nothing_within (after []), tt));
        placed = lit≤ tt;
      },
      (
        record {
          formed = record {
            in_range = (
              (lit< tt, lit≤ tt, lit≤ tt),
              lit≤ tt,
              one_letter _ refl,
              record { counts = (lit≤ tt, lit< tt, lit≤ tt, lit≤ tt, tt); entries = tt },
              lit≤ tt,
            );
            own = refl;
            target = tt;
            stray =
                no_stray ((2, 1) ∷ []);
          };
          new = refl;
          ready = word_typed_backwards_reversed_4_lacks_nothing;
          closed = λ e. closed_where (inserting (name 3 1) 0 (110 ∷ []) (after []) ∷ inserting (name 1 1) 0 (109 ∷ []) (after []) ∷
              inserting (name 2 1) 0
              (120 ∷ []) (after []) ∷ []) (after ((2, 1) ∷ []))
              (nothing_within (after ((2, 1) ∷ [])), (nothing_within (after ((2, 1) ∷ [])), (nothing_within (after ((2, 1) ∷ [])), tt)));
          placed = lit≤ tt;
        },
        tt,
      ),
    ),
  ),
)

-- an undo and a redo of another site
pub undone_and_redone_is_valid : IsValid undone_and_redone
unfolding EachWithin
undone_and_redone_is_valid = (
  record {
    formed = record {
      in_range = ((lit< tt, lit≤ tt, lit≤ tt), lit≤ tt, one_letter _ refl, record { counts = tt; entries = tt }, lit≤ tt);
      own =
          refl;
      target = tt;
      stray = no_stray [];
    };
    new = refl;
    ready = nothing_lacks [];
    closed = λ e. closed_where [] (after []) tt;
    placed = lit≤ tt;
  },
  (
    record {
      formed = record {
        in_range = (
          (lit< tt, lit≤ tt, lit≤ tt),
          lit≤ tt,
          one_letter _ refl,
          record { counts = (lit≤ tt, lit< tt, lit≤ tt, lit≤ tt, tt); entries = tt },
          lit≤ tt,
        );
        own = refl;
        target = tt;
        stray =
            no_stray ((0, 1) ∷ []);
      };
      new = refl;
      ready = typed_2_lacks_nothing;
      closed = λ e. closed_where (inserting (name 0 1) 0 (97 ∷ []) (after []) ∷ []) (after ((0, 1) ∷ []))
          (nothing_within (after ((0, 1) ∷ [])), tt);
      placed = lit≤ tt;
    },
    (
      record {
        formed = record {
          in_range = (
            (lit< tt, lit≤ tt, lit≤ tt),
            lit≤ tt,
            one_letter _ refl,
            record { counts = (lit≤ tt, lit< tt, lit≤ tt, lit≤ tt, tt); entries = tt },
            lit≤ tt,
          );
          own = refl;
          target = tt;
          stray =
              no_stray ((0, 2) ∷ []);
        };
        new = refl;
        ready = abc_3_lacks_nothing;
        closed = λ e. closed_where (inserting (name 0 1) 0 (97 ∷ []) (after []) ∷ inserting (name 0 2) 1 (98 ∷ []) (after ((0, 1) ∷ [])) ∷
            [])
            (after ((0, 2) ∷ [])) (nothing_within (after ((0, 2) ∷ [])), (within_0_1_0_2, tt));
        placed = lit≤ tt;
      },
      (
        record {
          formed = record {
            in_range = (
              lit< tt,
              (lit< tt, lit≤ tt, lit≤ tt),
              lit≤ tt,
              lit≤ tt,
              record { counts = (lit≤ tt, lit< tt, lit≤ tt, lit≤ tt, tt); entries = tt },
              lit≤ tt,
            );
            own = tt;
            target = (refl, refl);
            stray =
                no_stray ((0, 3) ∷ []);
          };
          new = refl;
          ready = abc_4_lacks_nothing;
          closed = λ e. cc;
          placed = tt;
        },
        (
          record {
            formed = record {
              in_range = (
                lit< tt,
                (lit< tt, lit≤ tt, lit≤ tt),
                lit≤ tt,
                lit≤ tt,
                record {
                  counts = (lit≤ tt, lit< tt, lit≤ tt, lit≤ tt, tt);
                  entries =
                      ((lit< tt, lit≤ tt, lit≤ tt), lit≤ tt, lit≤ tt, tt, tt);
                },
                lit≤ tt,
              );
              own = tt;
              target = (refl, refl);
              stray =
                  stray_0_3_undone_0_2_1;
            };
            new = refl;
            ready = undone_and_redone_5_lacks_nothing;
            closed = λ e. cc;
            placed = tt;
          },
          tt,
        ),
      ),
    ),
  ),
)

-- two deletes of one cell and an undo of each
pub both_deletes_undone_is_valid : IsValid both_deletes_undone
unfolding EachWithin
both_deletes_undone_is_valid = (
  record {
    formed = record {
      in_range = ((lit< tt, lit≤ tt, lit≤ tt), lit≤ tt, one_letter _ refl, record { counts = tt; entries = tt }, lit≤ tt);
      own =
          refl;
      target = tt;
      stray = no_stray [];
    };
    new = refl;
    ready = nothing_lacks [];
    closed = λ e. closed_where [] (after []) tt;
    placed = lit≤ tt;
  },
  (
    record {
      formed = record {
        in_range = (
          (lit< tt, lit≤ tt, lit≤ tt),
          lit≤ tt,
          one_letter _ refl,
          record { counts = (lit≤ tt, lit< tt, lit≤ tt, lit≤ tt, tt); entries = tt },
          lit≤ tt,
        );
        own = refl;
        target = tt;
        stray =
            no_stray ((0, 1) ∷ []);
      };
      new = refl;
      ready = typed_2_lacks_nothing;
      closed = λ e. closed_where (inserting (name 0 1) 0 (97 ∷ []) (after []) ∷ []) (after ((0, 1) ∷ []))
          (nothing_within (after ((0, 1) ∷ [])), tt);
      placed = lit≤ tt;
    },
    (
      record {
        formed = record {
          in_range = (
            (lit< tt, lit≤ tt, lit≤ tt),
            lit≤ tt,
            one_letter _ refl,
            record { counts = (lit≤ tt, lit< tt, lit≤ tt, lit≤ tt, tt); entries = tt },
            lit≤ tt,
          );
          own = refl;
          target = tt;
          stray =
              no_stray ((0, 2) ∷ []);
        };
        new = refl;
        ready = abc_3_lacks_nothing;
        closed = λ e. closed_where (inserting (name 0 1) 0 (97 ∷ []) (after []) ∷ inserting (name 0 2) 1 (98 ∷ []) (after ((0, 1) ∷ [])) ∷
            [])
            (after ((0, 2) ∷ [])) (nothing_within (after ((0, 2) ∷ [])), (within_0_1_0_2, tt));
        placed = lit≤ tt;
      },
      (
        record {
          formed = record {
            in_range = (
              (lit< tt, lit≤ tt, lit≤ tt),
              lit≤ tt,
              record { counts = (lit≤ tt, lit< tt, lit≤ tt, lit≤ tt, tt); entries = tt },
              lit≤ tt,
            );
            own = refl;
            target = tt;
            stray =
                no_stray ((0, 3) ∷ []);
          };
          new = refl;
          ready = abc_4_lacks_nothing;
          closed = λ e. closed_where (abc []) (after ((0, 3) ∷ []))
              (nothing_within (after ((0, 3) ∷ [])), (within_0_1_0_3, (within_0_2_0_3, tt)));
          placed = lit< tt;
        },
        (
          record {
            formed = record {
              in_range = (
                (lit< tt, lit≤ tt, lit≤ tt),
                lit≤ tt,
                record { counts = (lit≤ tt, lit< tt, lit≤ tt, lit≤ tt, tt); entries = tt },
                lit≤ tt,
              );
              own = refl;
              target = tt;
              stray =
                  no_stray ((0, 3) ∷ []);
            };
            new = refl;
            ready = both_deletes_undone_5_lacks_nothing;
            closed = λ e. closed_where (abc (deleting (name 0 4) 1 (after ((0, 3) ∷ [])) ∷ [])) (after ((0, 3) ∷ []))
                (nothing_within (after ((0, 3) ∷ [])), (within_0_1_0_3, (within_0_2_0_3, (within_0_3_0_3, tt))));
            placed = lit< tt;
          },
          (
            record {
              formed = record {
                in_range = (
                  lit< tt,
                  (lit< tt, lit≤ tt, lit≤ tt),
                  lit≤ tt,
                  lit≤ tt,
                  record { counts = (lit≤ tt, lit< tt, lit≤ tt, lit≤ tt, (lit≤ tt, lit< tt, lit≤ tt, lit≤ tt, tt)); entries = tt },
                  lit≤ tt,
                );
                own = tt;
                target = (refl, refl);
                stray = no_stray ((0, 4) ∷ (1, 1) ∷ []);
              };
              new = refl;
              ready = both_deletes_undone_6_lacks_nothing;
              closed = λ e. cc;
              placed = tt;
            },
            (
              record {
                formed = record {
                  in_range = (
                    lit< tt,
                    (lit< tt, lit≤ tt, lit≤ tt),
                    lit≤ tt,
                    lit≤ tt,
                    record {
                      counts = (lit≤ tt, lit< tt, lit≤ tt, lit≤ tt, (lit≤ tt, lit< tt, lit≤ tt, lit≤ tt, tt));
                      entries =
                          ((lit< tt, lit≤ tt, lit≤ tt), lit≤ tt, lit≤ tt, tt, tt);
                    },
                    lit≤ tt,
                  );
                  own = tt;
                  target = (refl, refl);
                  stray =
                      stray_0_4_1_1_undone_0_4_1;
                };
                new = refl;
                ready = both_deletes_undone_7_lacks_nothing;
                closed = λ e. cc;
                placed = tt;
              },
              tt,
            ),
          ),
        ),
      ),
    ),
  ),
)

-- what a context names and the history hasn't: the smallest number of a site comes first
pub first_original_is_lacked_first : LacksFirst [] (after ((0, 2) ∷ [])) (Original (name 0 1))
first_original_is_lacked_first = record { named = refl; missing = refl; first = first_of_two }

-- an undo group is lacked where its original is there
pub group_is_lacked_after_its_original : LacksFirst (inserting (name 0 1) 0 (97 ∷ []) (after []) ∷ [])
    (after_undos ((0, 1) ∷ []) ((name 0 1, 1) ∷ [])) (Group (name 0 1) 1)
group_is_lacked_after_its_original = record { named = refl; missing = refl; first = first_is_the_group }

-- site 0 writes a character, and site 1 one behind it
abbrev pub in_turn : List OpData
in_turn = inserting (name 0 1) 0 (97 ∷ []) (after []) ∷ inserting (name 1 1) 1 (98 ∷ []) (after ((0, 1) ∷ [])) ∷ []

-- a context that names an original but not what it was made after isn't closed, at the site of that original
pub context_without_a_cause_is_not_closed : CoversSite in_turn (after ((1, 1) ∷ [])) 1 → ⊥
context_without_a_cause_is_not_closed covers =
    absurd (false≢true (covers (inserting (name 1 1) 1 (98 ∷ []) (after ((0, 1) ∷ []))) (name 1 1) (1, lit< tt, refl) refl refl refl
    (Original (name 0 1)) refl))

-- with the cause it is closed
pub context_with_its_cause_is_closed : IsClosed in_turn (after ((0, 1) ∷ (1, 1) ∷ []))
unfolding EachWithin
context_with_its_cause_is_closed =
    closed_where in_turn (after ((0, 1) ∷ (1, 1) ∷ [])) (nothing_within (after ((0, 1) ∷ (1, 1) ∷ [])), (within_both, tt))

-- behind no cell there is place 0 alone
pub place_1_of_no_cells_is_out : HasPlace [] (inserting (name 0 1) 1 (97 ∷ []) (after [])) → ⊥
place_1_of_no_cells_is_out in_place = absurd (omega arith)

-- a delete needs a cell at its place
pub delete_behind_the_last_cell_is_out : HasPlace (inserting (name 0 1) 0 (97 ∷ []) (after []) ∷ [])
    (deleting (name 0 2) 1 (after ((0, 1) ∷ [])))
    → ⊥
delete_behind_the_last_cell_is_out in_place = absurd (omega arith)

-- a delete behind the last cell of a run has no place
pub delete_behind_a_run_is_out : HasPlace (run_split []) (deleting (name 1 2) 3 (after ((0, 1) ∷ []))) → ⊥
delete_behind_a_run_is_out in_place = absurd (omega arith)

-- one of its last cell has
pub delete_of_the_last_cell_of_a_run_is_in : HasPlace (run_split []) (deleting (name 1 2) 2 (after ((0, 1) ∷ [])))
delete_of_the_last_cell_of_a_run_is_in = lit< tt
