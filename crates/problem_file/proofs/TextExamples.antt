-- Worked examples of readings, written by hand: the items of a text with the places of their tokens, and the resulting
-- state.
use Rattle.std.proofs.Common.{ℕ, List, [], ◌∷◌, None, true, false, refl, sym, ◌∙◌, subst, arith}
use Rattle.std.specs.Prelude.{codes}
use Rattle.std.specs.Ordering.{nat_cmp}
use Rattle.std.specs.Cmp.Lexicographic.{slice_cmp}
use Rattle.std.specs.FinMap.{get-empty}
use Rattle.kat_model.specs.Trees.{prim, meet, test, act, product, star as star_term}
use Rattle.kat_model.specs.Expressions.{named, negation}
use Rattle.text_parser.specs.Pieces.{Piece, word, numeral, symbol, gap, parts_from, AreSeparate}
use Rattle.text_parser.proofs.PrintedWords.{word_is_name}
use Rattle.text_parser.proofs.Printed.{printed}
use Rattle.text_parser.specs.Actions.{context}
use Rattle.text_parser.specs.Phrases.{Leaf, Phrase, term, cond, one_prod, one_star, more_stars, bare, starred, name_unit, square_unit, one_conj, one_lit, more_lits, name_lit, not_lit}
use Rattle.text_parser.specs.declared.meaning.Meaning.TheVariants.{Test, Action}
use Rattle.text_parser.specs.ScopeParts.{ScopeParts, Means, IsUndeclared, empty_scope, declared}
use Rattle.text_parser.specs.Sound.{IsTermName, IsCondName}
use Rattle.text_parser.proofs.MeaningEntries.{get-insert_name}
use Rattle.while_lang.specs.Files.{term_side, equal, triple}
use Rattle.problem_file.specs.Files.{State, file_of}
use Rattle.problem_file.specs.Phrases.{one_name, more_names, tests, actions, hypothesis, goal_equal, goal_triple}
use Rattle.problem_file.specs.Sound.{with_test, with_action, IsTerm, IsCond}
use Rattle.problem_file.specs.Reads.{Reads, start_one}

abbrev leaf : ℕ → List ℕ → Leaf
leaf at text = record { at = at; text = text }

-- ---- test b, c; goal equal [b && c], b;

abbrev bc_text : List ℕ
bc_text = codes "test b, c; goal equal [b && c], b;"

-- b is test 0, and c is test 1
abbrev b_scope : ScopeParts
b_scope = declared empty_scope (codes "b") (Test 0)

abbrev bc_scope : ScopeParts
bc_scope = declared b_scope (codes "c") (Test 1)

-- the goal has 4 nodes on its left and 2 on its right
abbrev bc_state : State
bc_state = record { limit = (start_one).limit; world = bc_scope; tests = 2; actions = 0; vars = 0; progs = []; prog_names = []; hyps = []; rounds = None; width = None; goals = equal (term_side (test (meet (prim 0) (prim 1)))) (term_side (test (prim 0))) ∷ []; size = 6 }

abbrev bc_pieces : List Piece
bc_pieces =
    word (codes "test") ∷ gap 32 ∷ word (codes "b") ∷ symbol (codes ",") ∷ gap 32 ∷ word (codes "c") ∷ symbol (codes ";") ∷ gap 32 ∷ word (codes "goal")
    ∷ gap 32 ∷ word (codes "equal") ∷ gap 32 ∷ symbol (codes "[") ∷ word (codes "b") ∷ gap 32 ∷ symbol (codes "&&") ∷ gap 32 ∷ word (codes "c")
    ∷ symbol (codes "]") ∷ symbol (codes ",") ∷ gap 32 ∷ word (codes "b") ∷ symbol (codes ";") ∷ []

bc_separate : AreSeparate bc_pieces
bc_separate = (
  word_is_name (codes "test") refl,
  refl,
  (
    refl,
    (
      word_is_name (codes "b") refl,
      refl,
      (
        refl,
        refl,
        (
          refl,
          (
            word_is_name (codes "c") refl,
            refl,
            (
              refl,
              refl,
              (
                refl,
                (
                  word_is_name (codes "goal") refl,
                  refl,
                  (
                    refl,
                    (
                      word_is_name (codes "equal") refl,
                      refl,
                      (
                        refl,
                        (
                          refl,
                          refl,
                          (
                            word_is_name (codes "b") refl,
                            refl,
                            (
                              refl,
                              (
                                refl,
                                refl,
                                (
                                  refl,
                                  (
                                    word_is_name (codes "c") refl,
                                    refl,
                                    (
                                      refl,
                                      refl,
                                      (
                                        refl,
                                        refl,
                                        (
                                          refl,
                                          (word_is_name (codes "b") refl, refl, (refl, tt, tt)),
                                        ),
                                      ),
                                    ),
                                  ),
                                ),
                              ),
                            ),
                          ),
                        ),
                      ),
                    ),
                  ),
                ),
              ),
            ),
          ),
        ),
      ),
    ),
  ),
)

b_is_new : IsUndeclared empty_scope (codes "b")
b_is_new = get-empty (slice_cmp nat_cmp) (codes "b")

c_is_new : IsUndeclared b_scope (codes "c")
c_is_new = get-insert_name (empty_scope).meanings (codes "b") (Test 0) (codes "c") ∙ get-empty (slice_cmp nat_cmp) (codes "c")

b_means : Means bc_scope (codes "b") (Test 0)
b_means = get-insert_name (b_scope).meanings (codes "c") (Test 1) (codes "b") ∙ get-insert_name (empty_scope).meanings (codes "b") (Test 0) (codes "b")

c_means : Means bc_scope (codes "c") (Test 1)
c_means = get-insert_name (b_scope).meanings (codes "c") (Test 1) (codes "c")

-- [b && c]
abbrev bc_left : Phrase term
bc_left =
    one_prod (one_star (bare (square_unit (leaf 22 (codes "[")) (one_conj (more_lits (name_lit (leaf 23 (codes "b"))) (leaf 25 (codes "&&")) (one_lit (name_lit (leaf 28 (codes "c")))))) (leaf 29 (codes "]")))))

-- b
abbrev bc_right : Phrase term
bc_right = one_prod (one_star (bare (name_unit (leaf 32 (codes "b")))))

bc_left_is : IsTerm bc_scope bc_left (test (meet (prim 0) (prim 1)))
bc_left_is = record {
  sound = (subst IsCondName (sym b_means) tt, subst IsCondName (sym c_means) tt);
  built = rw (b_means, c_means) refl;
  small = omega arith;
}

bc_right_is : IsTerm bc_scope bc_right (test (prim 0))
bc_right_is = record { sound = subst (IsTermName bc_scope (context 0 false false)) (sym b_means) tt; built = rw b_means refl; small = omega arith }

bc_denotes : Reads bc_text (file_of bc_state (equal (term_side (test (meet (prim 0) (prim 1)))) (term_side (test (prim 0)))))
bc_denotes = record {
  denotes = record {
    parts_of_tokens = parts_from 0 bc_pieces;
    lexes = printed bc_pieces bc_separate (omega arith);
    items =
        record { keyword = leaf 0 (codes "test"); body = tests (more_names (leaf 5 (codes "b")) (leaf 6 (codes ",")) (one_name (leaf 8 (codes "c")))) (leaf 9 (codes ";")) }
        ∷ record { keyword = leaf 11 (codes "goal"); body = goal_equal (leaf 16 (codes "equal")) bc_left (leaf 30 (codes ",")) bc_right (leaf 33 (codes ";")) }
        ∷ [];
    spells = record {
      file = record { spells = refl; obey = (tt, (((refl, refl), tt), tt)) };
      fit = (tt, (((omega arith, (tt, tt)), tt), tt));
    };
    state = bc_state;
    make = (
      with_test (with_test start_one (codes "b")) (codes "c"),
      (with_test start_one (codes "b"), (b_is_new, omega arith, refl), (c_is_new, omega arith, refl)),
      (bc_state, record { few = omega arith; left = term_side (test (meet (prim 0) (prim 1))); right = term_side (test (prim 0)); is_left = bc_left_is; is_right = bc_right_is; numbers = (tt, (tt, (tt, (tt, (tt, (tt, (tt, (tt, tt)))))))); room = omega arith; made = refl }, refl),
    );
    goal = equal (term_side (test (meet (prim 0) (prim 1)))) (term_side (test (prim 0)));
    has_goal = refl;
  };
  file = refl;
}

-- ---- action p; test b; hyp p.b = 0; goal triple {b} p* {!b};

abbrev pb_text : List ℕ
pb_text = codes "action p; test b; hyp p.b = 0; goal triple {b} p* {!b};"

-- p is action 0, and b is test 0
abbrev p_scope : ScopeParts
p_scope = declared empty_scope (codes "p") (Action 0)

abbrev pb_scope : ScopeParts
pb_scope = declared p_scope (codes "b") (Test 0)

-- the hypothesis has 4 nodes, and the parts of the goal have 1, 2 and 2
abbrev pb_state : State
pb_state = record { limit = (start_one).limit; world = pb_scope; tests = 1; actions = 1; vars = 0; progs = []; prog_names = []; hyps = product (act 0) (test (prim 0)) ∷ []; rounds = None; width = None; goals = triple (named 0) (term_side (star_term (act 0))) (negation (named 0)) ∷ []; size = 9 }

abbrev pb_pieces : List Piece
pb_pieces =
    word (codes "action") ∷ gap 32 ∷ word (codes "p") ∷ symbol (codes ";") ∷ gap 32 ∷ word (codes "test") ∷ gap 32 ∷ word (codes "b") ∷ symbol (codes ";")
    ∷ gap 32 ∷ word (codes "hyp") ∷ gap 32 ∷ word (codes "p") ∷ symbol (codes ".") ∷ word (codes "b") ∷ gap 32 ∷ symbol (codes "=") ∷ gap 32
    ∷ numeral (codes "0") ∷ symbol (codes ";") ∷ gap 32 ∷ word (codes "goal") ∷ gap 32 ∷ word (codes "triple") ∷ gap 32 ∷ symbol (codes "{")
    ∷ word (codes "b") ∷ symbol (codes "}") ∷ gap 32 ∷ word (codes "p") ∷ symbol (codes "*") ∷ gap 32 ∷ symbol (codes "{") ∷ symbol (codes "!")
    ∷ word (codes "b") ∷ symbol (codes "}") ∷ symbol (codes ";") ∷ []

pb_separate : AreSeparate pb_pieces
pb_separate = (
  word_is_name (codes "action") refl,
  refl,
  (
    refl,
    (
      word_is_name (codes "p") refl,
      refl,
      (
        refl,
        refl,
        (
          refl,
          (
            word_is_name (codes "test") refl,
            refl,
            (
              refl,
              (
                word_is_name (codes "b") refl,
                refl,
                (
                  refl,
                  refl,
                  (
                    refl,
                    (
                      word_is_name (codes "hyp") refl,
                      refl,
                      (
                        refl,
                        (
                          word_is_name (codes "p") refl,
                          refl,
                          (
                            refl,
                            refl,
                            (
                              word_is_name (codes "b") refl,
                              refl,
                              (
                                refl,
                                (
                                  refl,
                                  refl,
                                  (
                                    refl,
                                    (
                                      refl,
                                      refl,
                                      (
                                        refl,
                                        refl,
                                        (
                                          refl,
                                          (
                                            word_is_name (codes "goal") refl,
                                            refl,
                                            (
                                              refl,
                                              (
                                                word_is_name (codes "triple") refl,
                                                refl,
                                                (
                                                  refl,
                                                  (
                                                    refl,
                                                    refl,
                                                    (
                                                      word_is_name (codes "b") refl,
                                                      refl,
                                                      (
                                                        refl,
                                                        refl,
                                                        (
                                                          refl,
                                                          (
                                                            word_is_name (codes "p") refl,
                                                            refl,
                                                            (
                                                              refl,
                                                              refl,
                                                              (
                                                                refl,
                                                                (
                                                                  refl,
                                                                  refl,
                                                                  (
                                                                    refl,
                                                                    refl,
                                                                    (
                                                                      word_is_name (codes "b") refl,
                                                                      refl,
                                                                      (refl, refl, (refl, tt, tt)),
                                                                    ),
                                                                  ),
                                                                ),
                                                              ),
                                                            ),
                                                          ),
                                                        ),
                                                      ),
                                                    ),
                                                  ),
                                                ),
                                              ),
                                            ),
                                          ),
                                        ),
                                      ),
                                    ),
                                  ),
                                ),
                              ),
                            ),
                          ),
                        ),
                      ),
                    ),
                  ),
                ),
              ),
            ),
          ),
        ),
      ),
    ),
  ),
)

p_is_new : IsUndeclared empty_scope (codes "p")
p_is_new = get-empty (slice_cmp nat_cmp) (codes "p")

b_is_new_beside : IsUndeclared p_scope (codes "b")
b_is_new_beside = get-insert_name (empty_scope).meanings (codes "p") (Action 0) (codes "b") ∙ get-empty (slice_cmp nat_cmp) (codes "b")

p_acts : Means pb_scope (codes "p") (Action 0)
p_acts = get-insert_name (p_scope).meanings (codes "b") (Test 0) (codes "p") ∙ get-insert_name (empty_scope).meanings (codes "p") (Action 0) (codes "p")

b_tests : Means pb_scope (codes "b") (Test 0)
b_tests = get-insert_name (p_scope).meanings (codes "b") (Test 0) (codes "b")

-- p.b
abbrev pb_hyp : Phrase term
pb_hyp = one_prod (more_stars (bare (name_unit (leaf 22 (codes "p")))) (leaf 23 (codes ".")) (one_star (bare (name_unit (leaf 24 (codes "b"))))))

-- b
abbrev pb_pre : Phrase cond
pb_pre = one_conj (one_lit (name_lit (leaf 44 (codes "b"))))

-- p*
abbrev pb_body : Phrase term
pb_body = one_prod (one_star (starred (name_unit (leaf 47 (codes "p"))) (leaf 48 (codes "*"))))

-- !b
abbrev pb_post : Phrase cond
pb_post = one_conj (one_lit (not_lit (leaf 51 (codes "!")) (name_lit (leaf 52 (codes "b")))))

pb_hyp_is : IsTerm pb_scope pb_hyp (product (act 0) (test (prim 0)))
pb_hyp_is = record {
  sound = (subst (IsTermName pb_scope (context 0 false false)) (sym p_acts) refl, subst (IsTermName pb_scope (context 0 false false)) (sym b_tests) tt);
  built = rw (p_acts, b_tests) refl;
  small = omega arith;
}

pb_pre_is : IsCond pb_scope true pb_pre (named 0)
pb_pre_is = record { sound = subst IsCondName (sym b_tests) tt; built = rw b_tests refl; narrow = omega arith; small = omega arith }

pb_body_is : IsTerm pb_scope pb_body (star_term (act 0))
pb_body_is = record { sound = (refl, subst (IsTermName pb_scope (context 0 false false)) (sym p_acts) refl); built = rw p_acts refl; small = omega arith }

pb_post_is : IsCond pb_scope true pb_post (negation (named 0))
pb_post_is = record { sound = subst IsCondName (sym b_tests) tt; built = rw b_tests refl; narrow = omega arith; small = omega arith }

abbrev pb_declared : State
pb_declared = with_test (with_action start_one (codes "p")) (codes "b")

abbrev pb_stated : State
pb_stated = record { limit = (start_one).limit; world = pb_scope; tests = 1; actions = 1; vars = 0; progs = []; prog_names = []; hyps = product (act 0) (test (prim 0)) ∷ []; rounds = None; width = None; goals = []; size = 4 }

pb_denotes : Reads pb_text (file_of pb_state (triple (named 0) (term_side (star_term (act 0))) (negation (named 0))))
pb_denotes = record {
  denotes = record {
    parts_of_tokens = parts_from 0 pb_pieces;
    lexes = printed pb_pieces pb_separate (omega arith);
    items =
        record { keyword = leaf 0 (codes "action"); body = actions (one_name (leaf 7 (codes "p"))) (leaf 8 (codes ";")) }
        ∷ record { keyword = leaf 10 (codes "test"); body = tests (one_name (leaf 15 (codes "b"))) (leaf 16 (codes ";")) }
        ∷ record { keyword = leaf 18 (codes "hyp"); body = hypothesis pb_hyp (leaf 26 (codes "=")) (leaf 28 (codes "0")) (leaf 29 (codes ";")) }
        ∷ record {
          keyword = leaf 31 (codes "goal");
          body = goal_triple (leaf 36 (codes "triple")) (record {
            pre = record { left = leaf 43 (codes "{"); inner = pb_pre; right = leaf 45 (codes "}") };
            body = pb_body;
            post = record { left = leaf 50 (codes "{"); inner = pb_post; right = leaf 53 (codes "}") };
          }) (leaf 54 (codes ";"));
        }
        ∷ [];
    spells = record {
      file = record { spells = refl; obey = (tt, (tt, ((tt, tt), ((refl, tt, refl), tt)))) };
      fit = (tt, (tt, ((tt, tt), ((tt, tt, (omega arith, tt)), tt))));
    };
    state = pb_state;
    make = (
      with_action start_one (codes "p"),
      (p_is_new, omega arith, refl),
      (
        pb_declared,
        (b_is_new_beside, omega arith, refl),
        (
          pb_stated,
          record { few = omega arith; tree = product (act 0) (test (prim 0)); is_term = pb_hyp_is; room = omega arith; made = refl },
          (
            pb_state,
            record { few = omega arith; pre = named 0; body = term_side (star_term (act 0)); post = negation (named 0); is_pre = pb_pre_is; is_body = pb_body_is; is_post = pb_post_is; numbers = (tt, (tt, (tt, (tt, (tt, (tt, (tt, (tt, (tt, (tt, tt)))))))))); room = omega arith; made = refl },
            refl,
          ),
        ),
      ),
    );
    goal = triple (named 0) (term_side (star_term (act 0))) (negation (named 0));
    has_goal = refl;
  };
  file = refl;
}
