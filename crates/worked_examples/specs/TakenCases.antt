-- Transcripts of which the lines alone are taken that `replay` takes today.
use Rattle.std.specs.Prelude.{◌≡◌, [], ◌∷◌, Some, codes}
use Rattle.session_model.specs.Transcript.{bad_line, done}
use Rattle.worked_examples.specs.Files.{lines, file_replayed_today}

-- the last line has no line feed
abbrev pub LinesThatAreTaken : Type 0
LinesThatAreTaken =
    file_replayed_today
    (lines (codes "input n = 1;" ∷
    codes "text o { input$n }" ∷ []))
    (codes "s recv {\"method\":\"init\",\"data\":{\"n\":1,\".clientdata_output_o_hidden\":false}}\ns recv {\"method\":\"update\",\"data\":{\"n\":2}}")
    ≡ Some (record {
      output = lines (codes "s send {\"config\":{\"sessionId\":\"s\",\"user\":null,\"workerId\":\"\"}}" ∷
          codes "s send {\"busy\":\"busy\"}" ∷
          codes "s send {\"progress\":{\"message\":{\"id\":\"o\"},\"type\":\"binding\"}}" ∷
          codes "s send {\"recalculating\":{\"name\":\"o\",\"status\":\"recalculating\"}}" ∷
          codes "s send {\"recalculating\":{\"name\":\"o\",\"status\":\"recalculated\"}}" ∷
          codes "s send {\"errors\":{},\"inputMessages\":[],\"values\":{\"o\":\"1\"}}" ∷
          codes "s send {\"busy\":\"idle\"}" ∷
          codes "s send {\"busy\":\"busy\"}" ∷
          codes "s send {\"progress\":{\"message\":{\"id\":\"o\"},\"type\":\"binding\"}}" ∷
          codes "s send {\"recalculating\":{\"name\":\"o\",\"status\":\"recalculating\"}}" ∷
          codes "s send {\"recalculating\":{\"name\":\"o\",\"status\":\"recalculated\"}}" ∷
          codes "s send {\"errors\":{},\"inputMessages\":[],\"values\":{\"o\":\"2\"}}" ∷
          codes "s send {\"busy\":\"idle\"}" ∷
          codes "s over ended" ∷ []);
      end = done;
    })

-- the second line sets an input that the app doesn't have
abbrev pub LineOfAnUnknownInput : Type 0
LineOfAnUnknownInput =
    file_replayed_today
    ([])
    (lines (codes "s recv {\"method\":\"init\",\"data\":{}}" ∷
    codes "s recv {\"method\":\"update\",\"data\":{\"n\":2}}" ∷ []))
    ≡ Some (record {
      output = lines (codes "s send {\"config\":{\"sessionId\":\"s\",\"user\":null,\"workerId\":\"\"}}" ∷
          codes "s send {\"busy\":\"busy\"}" ∷
          codes "s send {\"errors\":{},\"inputMessages\":[],\"values\":{}}" ∷
          codes "s send {\"busy\":\"idle\"}" ∷ []);
      end = bad_line 2;
    })

-- the second line is for another session
abbrev pub LineOfAnotherSession : Type 0
LineOfAnotherSession =
    file_replayed_today
    ([])
    (lines (codes "s recv {\"method\":\"init\",\"data\":{}}" ∷
    codes "t recv {\"method\":\"init\",\"data\":{}}" ∷ []))
    ≡ Some (record {
      output = lines (codes "s send {\"config\":{\"sessionId\":\"s\",\"user\":null,\"workerId\":\"\"}}" ∷
          codes "s send {\"busy\":\"busy\"}" ∷
          codes "s send {\"errors\":{},\"inputMessages\":[],\"values\":{}}" ∷
          codes "s send {\"busy\":\"idle\"}" ∷ []);
      end = bad_line 2;
    })
