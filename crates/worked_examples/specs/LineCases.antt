-- Transcripts: their lines, and what ends a replay.
use Rattle.std.specs.Prelude.{◌≡◌, [], ◌∷◌, Some, codes}
use Rattle.session_model.specs.Transcript.{bad_line, done, no_session}
use Rattle.worked_examples.specs.Files.{lines, file_replayed}

abbrev pub EmptyTranscript : Type 0
EmptyTranscript =
    file_replayed
    ([])
    ([])
    ≡ Some (record {
      output = [];
      end = done;
    })

abbrev pub ClosedSession : Type 0
ClosedSession =
    file_replayed
    (lines (codes "input n = 1;" ∷
    codes "text o { input$n }" ∷ []))
    (lines (codes "s recv {\"method\":\"init\",\"data\":{\"n\":1,\".clientdata_output_o_hidden\":false}}" ∷
    codes "s close" ∷ []))
    ≡ Some (record {
      output = lines (codes "s send {\"config\":{\"sessionId\":\"s\",\"user\":null,\"workerId\":\"\"}}" ∷
          codes "s send {\"busy\":\"busy\"}" ∷
          codes "s send {\"progress\":{\"message\":{\"id\":\"o\"},\"type\":\"binding\"}}" ∷
          codes "s send {\"recalculating\":{\"name\":\"o\",\"status\":\"recalculating\"}}" ∷
          codes "s send {\"recalculating\":{\"name\":\"o\",\"status\":\"recalculated\"}}" ∷
          codes "s send {\"errors\":{},\"inputMessages\":[],\"values\":{\"o\":\"1\"}}" ∷
          codes "s send {\"busy\":\"idle\"}" ∷
          codes "s over ended" ∷ []);
      end = done;
    })

abbrev pub MessageAfterTheEnd : Type 0
MessageAfterTheEnd =
    file_replayed
    (lines (codes "budget 3;" ∷
    codes "value v = 0;" ∷
    codes "observe w { set v = v() + 1; }" ∷ []))
    (lines (codes "s recv {\"method\":\"init\",\"data\":{}}" ∷
    codes "s recv {\"method\":\"update\",\"data\":{}}" ∷ []))
    ≡ Some (record {
      output = lines (codes "s send {\"config\":{\"sessionId\":\"s\",\"user\":null,\"workerId\":\"\"}}" ∷
          codes "s send {\"busy\":\"busy\"}" ∷
          codes "s over budget" ∷ []);
      end = no_session 2;
    })

abbrev pub LineWithoutAForm : Type 0
LineWithoutAForm =
    file_replayed
    (lines (codes "input n = 1;" ∷
    codes "text o { input$n }" ∷ []))
    (lines (codes "s recv {\"method\":\"init\",\"data\":{\"n\":1,\".clientdata_output_o_hidden\":false}}" ∷
    codes "s receive" ∷ []))
    ≡ Some (record {
      output = lines (codes "s send {\"config\":{\"sessionId\":\"s\",\"user\":null,\"workerId\":\"\"}}" ∷
          codes "s send {\"busy\":\"busy\"}" ∷
          codes "s send {\"progress\":{\"message\":{\"id\":\"o\"},\"type\":\"binding\"}}" ∷
          codes "s send {\"recalculating\":{\"name\":\"o\",\"status\":\"recalculating\"}}" ∷
          codes "s send {\"recalculating\":{\"name\":\"o\",\"status\":\"recalculated\"}}" ∷
          codes "s send {\"errors\":{},\"inputMessages\":[],\"values\":{\"o\":\"1\"}}" ∷
          codes "s send {\"busy\":\"idle\"}" ∷ []);
      end = bad_line 2;
    })

abbrev pub EndOfAnUnknownTask : Type 0
EndOfAnUnknownTask =
    file_replayed
    (lines (codes "input n = 1;" ∷
    codes "text o { input$n }" ∷ []))
    (lines (codes "s end t" ∷ []))
    ≡ Some (record {
      output = [];
      end = bad_line 1;
    })
