-- The loop over the payloads of a piece.
use Rattle.std.proofs.Common.{◌≡◌, ℕ, ◌+◌, ◌<◌, List, [], ◌∷◌, ◌++◌, length, take, Option, Result, Ok, Err, refl, sym, ap, subst, ◌∙◌, append_assoc}
use Rattle.std.proofs.Common.{drop, get_or, add-one, drop-cons, ◌≤◌}
use Rattle.tab_etf.specs.declared.framing.Frame.{Frame}
use Rattle.tab_etf.specs.Frames.{payload_of}
use Rattle.tab_etf.specs.Frames.{contents}
use Rattle.tab_session.specs.declared.ended.Ended.{Ended}
use Rattle.tab_session.specs.declared.ended.Ended.TheVariants.{Damaged, Device, TooLong, NoMemory}
use Rattle.std.specs.Io.KnownBytes.{Appends, Keeps}
use Rattle.std.proofs.lemmas.List.{append-nil, drop_all}
use Rattle.tab_session.specs.declared.answered.PayloadReply.{PayloadReply}
use Rattle.tab_model.specs.State.{State}
use Rattle.tab_session.specs.AnsweredPayloads.{Answered, AnsweredAll, answer_frame, answer_payload}
use Rattle.tab_session.specs.Replays.{frames_of, Handed, IsServing, Passed, WroteSome, WroteBefore, Served}
use Rattle.std.proofs.Math.Seq.{take-append-add}
use Rattle.tab_session.proofs.AnsweredAllLemmas.{total, frames_join, frames_one, beginning_after}
use Rattle.tab_etf.proofs.KnownBytesLemmas.{Appends-none, Appends-then, Appends-keeps}

pub all_taken : (xs : List ℕ) → take (length xs) xs ≡ xs
all_taken [] = refl
all_taken (x ∷ xs) = ap (λ (ys : List ℕ). x ∷ ys) (all_taken xs)

pub left_is : (ps : List Frame) (i : ℕ) (v : Frame) → i < length ps → v ≡ get_or ps i v → contents (drop i ps) ≡ payload_of v ∷ contents (drop (i + 1) ps)
left_is ps i v lt e =
    let cons : drop i ps ≡ get_or ps i v ∷ drop (i + 1) ps = rw (add-one, drop-cons ps i v) refl in
    ap contents cons ∙ ap (λ (w : Frame). payload_of w ∷ contents (drop (i + 1) ps)) (sym e)

pub none_left : (ps : List Frame) (i : ℕ) → length ps ≤ i → contents (drop i ps) ≡ []
none_left ps i le = ap contents (drop_all i ps le)

-- what is kept is written first
pub handed_after : (x : PayloadReply) (old mid new : Option (List ℕ)) (b m c : List ℕ) (r : Result (Unit {0}) Ended) → m ≡ b → Appends old mid m → Handed x mid new [] [] r → c ≡ [] → Handed x old new b c r
handed_after x old mid new b m c (Ok u) e h g f =
    (b ++ g.0, Appends-then old mid new m g.0 (b ++ g.0) h g.1 (ap (λ (y : List ℕ). y ++ g.0) e), ap (λ (y : List ℕ). (b ++ g.0) ++ y) f ∙ append_assoc b g.0 [] ∙ ap (λ (y : List ℕ). b ++ y) g.2)
handed_after x old mid new b m c (Err Damaged) e h g f = absurd g
handed_after x old mid new b m c (Err Device) e h g f =
    (length b + g.0, Appends-then old mid new m (take g.0 (answer_frame x)) _ h g.1 (ap (λ (y : List ℕ). y ++ take g.0 (answer_frame x)) e ∙ sym (take-append-add b (answer_frame x) g.0)))
handed_after x old mid new b m c (Err TooLong) e h g f = (Appends-then old mid new m [] b h g.0 (append-nil m ∙ e), g.1)
handed_after x old mid new b m c (Err NoMemory) e h g f = absurd g

module _ (capacity : ℕ) where
  pub serving_init : (σ : State) (all : List (List ℕ)) (old : Option (List ℕ)) → IsServing capacity σ σ all all old old []
  serving_init σ all old = record { said = []; goes = λ ss τ r. r; written = []; text = Appends-none old; whole = refl }

  pub serving_kept : (σ now μ : State) (all left : List (List ℕ)) (old new : Option (List ℕ)) (b c p : List ℕ) (r : PayloadReply)
      → IsServing capacity σ now all (p ∷ left) old new b → Answered capacity now p r μ → c ≡ b ++ answer_frame r → IsServing capacity σ μ all left old new c
  serving_kept σ now μ all left old new b c p r s a e = record {
    said = s.said ++ r ∷ [];
    goes = λ ss τ q. subst (λ (rs : List PayloadReply). AnsweredAll capacity σ all rs τ) (sym (append_assoc s.said (r ∷ []) ss)) (s.goes (r ∷ ss) τ (μ, a, q));
    written = s.written;
    text = s.text;
    whole = ap (λ (x : List ℕ). s.written ++ x) e ∙ sym (append_assoc s.written b (answer_frame r)) ∙ ap (λ (x : List ℕ). x ++ answer_frame r) s.whole ∙ sym (frames_one s.said r);
  }

  -- a beginning of what is kept was written
  pub serving_moved : (σ now : State) (all left : List (List ℕ)) (old mid new : Option (List ℕ)) (b w c : List ℕ)
      → IsServing capacity σ now all left old mid b → Appends mid new w → w ++ c ≡ b → IsServing capacity σ now all left old new c
  serving_moved σ now all left old mid new b w c s h e = record {
    said = s.said;
    goes = s.goes;
    written = s.written ++ w;
    text = Appends-then old mid new s.written w (s.written ++ w) s.text h refl;
    whole = append_assoc s.written w c ∙ ap (λ (x : List ℕ). s.written ++ x) e ∙ s.whole;
  }

  pub serving_done : (σ now : State) (all : List (List ℕ)) (old mid new : Option (List ℕ)) (b : List ℕ)
      → IsServing capacity σ now all [] old mid b → Appends mid new b → Passed capacity σ now all old new
  serving_done σ now all old mid new b s w = record {
    replies = s.said;
    ran = subst (λ (rs : List PayloadReply). AnsweredAll capacity σ all rs now) (append-nil s.said) (s.goes [] now refl);
    text = Appends-then old mid new s.written b (frames_of s.said) s.text w s.whole;
  }

  pub passed_keeps : (σ τ : State) (all : List (List ℕ)) (old mid new : Option (List ℕ)) → Passed capacity σ τ all old mid → Keeps mid new → Passed capacity σ τ all old new
  passed_keeps σ τ all old mid new p k = record { replies = p.replies; ran = p.ran; text = Appends-keeps old mid new _ p.text k }

  pub serving_device : (σ now : State) (all left : List (List ℕ)) (old mid new : Option (List ℕ)) (b : List ℕ) (n : ℕ)
      → IsServing capacity σ now all left old mid b → Appends mid new (take n b) → WroteSome capacity σ all old new
  serving_device σ now all left old mid new b n s w =
      let t = total capacity now left in
      let k = beginning_after s.written n b (frames_of t.0) in
      let e : s.written ++ (b ++ frames_of t.0) ≡ frames_of (s.said ++ t.0) =
      sym (append_assoc s.written b (frames_of t.0)) ∙ ap (λ (x : List ℕ). x ++ frames_of t.0) s.whole ∙ sym (frames_join s.said t.0) in
      record {
        replies = s.said ++ t.0;
        said = record { last = t.1.last; ran = s.goes t.0 t.1.last t.1.ran };
        count = k.0;
        text = Appends-then old mid new s.written (take n b) _ s.text w (sym k.1 ∙ ap (take k.0) e);
      }

  pub passed_device : (σ τ : State) (all : List (List ℕ)) (old mid new : Option (List ℕ)) → Passed capacity σ τ all old mid → Keeps mid new → WroteSome capacity σ all old new
  passed_device σ τ all old mid new p k = record {
    replies = p.replies;
    said = record { last = τ; ran = p.ran };
    count = length (frames_of p.replies);
    text = rw (all_taken (frames_of p.replies)) (Appends-keeps old mid new _ p.text k);
  }

  pub serving_too_long : (σ now μ : State) (all left : List (List ℕ)) (old mid new : Option (List ℕ)) (b p : List ℕ) (r : PayloadReply)
      → IsServing capacity σ now all (p ∷ left) old mid b → Answered capacity now p r μ → 4294967295 < length (answer_payload r) → Appends mid new b → WroteBefore capacity σ all old new
  serving_too_long σ now μ all left old mid new b p r s a lt w =
      let t = total capacity μ left in
      record {
        first = s.said;
        others = r ∷ t.0;
        said = record { last = t.1.last; ran = s.goes (r ∷ t.0) t.1.last (μ, a, t.1.ran) };
        text = Appends-then old mid new s.written b _ s.text w s.whole;
        next = lt;
      }

  -- a payload was answered, and its frame handed on
  pub serving_handed : (σ now μ : State) (all left : List (List ℕ)) (old mid new : Option (List ℕ)) (b c p : List ℕ) (r : PayloadReply)
      → IsServing capacity σ now all (p ∷ left) old mid b → Answered capacity now p r μ → Handed r mid new b c (Ok tt) → IsServing capacity σ μ all left old new c
  serving_handed σ now μ all left old mid new b c p r s a h =
      serving_moved σ μ all left old mid new (b ++ answer_frame r) h.0 c (serving_kept σ now μ all left old mid b (b ++ answer_frame r) p r s a refl) h.1 h.2

  pub serving_fault : (σ now μ : State) (all left : List (List ℕ)) (old mid new : Option (List ℕ)) (b c p : List ℕ) (r : PayloadReply) (e : Ended)
      → IsServing capacity σ now all (p ∷ left) old mid b → Answered capacity now p r μ → Handed r mid new b c (Err e) → Served capacity σ μ all old new (Err e)
  serving_fault σ now μ all left old mid new b c p r Damaged s a h = absurd h
  serving_fault σ now μ all left old mid new b c p r Device s a h =
      serving_device σ μ all left old mid new (b ++ answer_frame r) h.0 (serving_kept σ now μ all left old mid b (b ++ answer_frame r) p r s a refl) h.1
  serving_fault σ now μ all left old mid new b c p r TooLong s a h = serving_too_long σ now μ all left old mid new b p r s a h.1 h.0
  serving_fault σ now μ all left old mid new b c p r NoMemory s a h = absurd h

  -- the payload at the index
  pub serving_at : (σ now : State) (ps : List Frame) (i : ℕ) (v : Frame) (q : List ℕ) (old new : Option (List ℕ)) (b : List ℕ)
      → IsServing capacity σ now (contents ps) (contents (drop i ps)) old new b → i < length ps → v ≡ get_or ps i v → q ≡ payload_of v
      → IsServing capacity σ now (contents ps) (q ∷ contents (drop (i + 1) ps)) old new b
  serving_at σ now ps i v q old new b s lt e f =
      subst (λ (left : List (List ℕ)). IsServing capacity σ now (contents ps) left old new b) (left_is ps i v lt e ∙ ap (λ (x : List ℕ). x ∷ contents (drop (i + 1) ps)) (sym f)) s

  pub serving_end : (σ now : State) (ps : List Frame) (i : ℕ) (old new : Option (List ℕ)) (b : List ℕ)
      → IsServing capacity σ now (contents ps) (contents (drop i ps)) old new b → length ps ≤ i → IsServing capacity σ now (contents ps) [] old new b
  serving_end σ now ps i old new b s le = subst (λ (left : List (List ℕ)). IsServing capacity σ now (contents ps) left old new b) (none_left ps i le) s

  pub serving_buffer : (σ now : State) (all left : List (List ℕ)) (old new : Option (List ℕ)) (b c : List ℕ) → IsServing capacity σ now all left old new b → c ≡ b → IsServing capacity σ now all left old new c
  serving_buffer σ now all left old new b c s e = subst (λ (x : List ℕ). IsServing capacity σ now all left old new x) (sym e) s
